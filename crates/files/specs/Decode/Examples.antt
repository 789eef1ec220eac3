-- The files of the course examples, decoded.
use Rattle.std.specs.Prelude.{◌≡◌, refl, [], map, ℕ}
use Rattle.files.specs.Decode.{decode_graph, decode_property, decode_rules, decode_interface, graph_bytes}
use Rattle.files.specs.Course.{one_one_file, one_one, one_none_file, one_none, p1_file, p1_rows, or_file, or_rows, false_file, false_rows, return_file, return_rows, box_file, box_rows, entry_file, entry_graph, call_file, call_graph, returning_file, returning_graph, cycle_file, cycle_graph, loop_file, loop_graph, return_rule_file, return_rules, operator_files, operator_rows, p1_bytes, p1_graph, p2_bytes, p2_graph, gr}

pub one_one_is : decode_interface one_one_file ≡ one_one
unfolding decode_interface
one_one_is = refl

pub one_none_is : decode_interface one_none_file ≡ one_none
unfolding decode_interface
one_none_is = refl

pub p1_is : decode_property p1_file ≡ p1_rows
unfolding decode_property
p1_is = refl

pub or_is : decode_property or_file ≡ or_rows
unfolding decode_property
or_is = refl

pub false_is : decode_property false_file ≡ false_rows
unfolding decode_property
false_is = refl

pub return_is : decode_property return_file ≡ return_rows
unfolding decode_property
return_is = refl

pub box_is : (l : ℕ) → decode_property (box_file l) ≡ box_rows l
unfolding decode_property
box_is l = refl

pub empty_is : decode_graph [] ≡ gr [] []
unfolding decode_graph
empty_is = refl

pub entry_is : decode_graph entry_file ≡ entry_graph
unfolding decode_graph
entry_is = refl

pub call_is : decode_graph call_file ≡ call_graph
unfolding decode_graph
call_is = refl

pub returning_is : decode_graph returning_file ≡ returning_graph
unfolding decode_graph
returning_is = refl

pub cycle_is : decode_graph cycle_file ≡ cycle_graph
unfolding decode_graph
cycle_is = refl

pub loop_is : decode_graph loop_file ≡ loop_graph
unfolding decode_graph
loop_is = refl

pub rules_is : decode_rules return_rule_file ≡ return_rules
unfolding decode_rules
rules_is = refl

pub operators_are : map decode_property operator_files ≡ operator_rows
unfolding decode_property
operators_are = refl

-- ---- the models of P1 to P3, as bytes

pub p1_bytes_are : graph_bytes p1_graph ≡ p1_bytes
unfolding graph_bytes
p1_bytes_are = refl

pub p2_bytes_are : graph_bytes p2_graph ≡ p2_bytes
unfolding graph_bytes
p2_bytes_are = refl

pub p3_bytes_are : graph_bytes (gr [] []) ≡ []
unfolding graph_bytes
p3_bytes_are = refl
