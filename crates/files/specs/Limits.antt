-- "Limits: 256 nodes, 4,096 edges, 32 rows, 12 rows with operator 8." Every definition takes the limits as a value.
use Rattle.files.specs.Places.{max_nodes, max_edges, max_rows, max_ors}
use Rattle.files.specs.declared.record.Limits.{Limits}

abbrev pub desk : Limits
desk = record { nodes = max_nodes; edges = max_edges; rows = max_rows; ors = max_ors }
