-- A graph written to the start of a lent buffer: its bytes, cut out again, are an accepted file that holds it, with the counts of its nodes and edges.
use Rattle.std.specs.Prelude.{◌≡◌, List, ℕ, ◌+◌, ◌*◌, length, take, drop}
use Rattle.std.proofs.Common.{sym, ap, ◌∙◌, arith, take_at}
use Rattle.std.proofs.Math.Option.{none}
use Rattle.files.specs.Cells.{put_at}
use Rattle.files.specs.Cells.Laws.{put_front}
use Rattle.files.specs.Decode.{Filed, decode_graph, graph_bytes}
use Rattle.files.specs.Decode.Accepted.{accepted_bytes}
use Rattle.files.specs.Decode.Written.{decode_bytes, graph_length, nodes_bytes, count_bytes}
use Rattle.files.specs.Graph.{Graph, size}
use Rattle.files.specs.Places.{record_len}
use Rattle.files.specs.Record.{count}
use Rattle.files.specs.Refusal.{graph, nodes_of, refusal}
use Rattle.files.specs.View.{Views}
use Rattle.files.specs.declared.record.Limits.{Limits}

module _ (G : Graph) {n e : ℕ} (nodes_are : n ≡ size G) (edges_are : e ≡ length G.edges) (work : List ℕ) {work' : List ℕ} (stored : work' ≡ put_at work 0 (graph_bytes G)) where
  abbrev stored_file : List ℕ
  stored_file = take (record_len * (n + e)) work'

  stored_cut : stored_file ≡ graph_bytes G
  stored_cut =
      ap (take (record_len * (n + e))) (stored ∙ put_front work (graph_bytes G))
      ∙ take_at (graph_bytes G) (drop (length (graph_bytes G)) work) (record_len * (n + e)) (omega (arith, graph_length G, nodes_are, edges_are))

  pub stored_length : length stored_file ≡ record_len * (n + e)
  stored_length = omega (arith, ap length stored_cut, graph_length G, nodes_are, edges_are)

  pub stored_graph : decode_graph stored_file ≡ G
  stored_graph = ap decode_graph stored_cut ∙ decode_bytes G

  module _ (L : Limits) (filed : Filed L G) where
    pub stored_accepted : refusal L graph stored_file ≡ none
    stored_accepted = ap (refusal L graph) stored_cut ∙ accepted_bytes L G filed

    pub stored_views : Views (record { nodes = n; edges = e }) stored_file
    stored_views = record {
      graph_file = record { limits = L; accepted = stored_accepted };
      nodes_are = nodes_are ∙ sym (nodes_bytes G) ∙ sym (ap nodes_of stored_cut);
      edges_are = omega (arith, edges_are, nodes_bytes G, count_bytes G, ap nodes_of stored_cut, ap count stored_cut);
    }
