-- What a file is read as, in the code and in the definitions.
use Rattle.files.specs.declared.offence.FileKind.{FileKind}
use Rattle.files.specs.declared.offence.FileKind.TheVariants.{Graph, Property, Rules, Interface}
use Rattle.files.specs.Refusal.{Kind, graph, property, rules, interface}

abbrev pub kind_of : FileKind → Kind
kind_of Graph = graph
kind_of Property = property
kind_of Rules = rules
kind_of Interface = interface
