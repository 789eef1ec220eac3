-- What is written of a graph of at most 256 nodes is bytes; and number 1 ends a file's checks. Assumes nothing.
use Rattle.std.specs.Prelude.{◌≡◌, refl, ◌⊎◌, Bool, true, false, ℕ, ◌≤◌, ◌<◌}
use Rattle.std.proofs.Common.{subst, inl, inr, not-suc-le-zero, arith}
use mathlib.Core.List.Memᴰ
use mathlib.Core.List.{List, [], ◌∷◌, map, Memᴰ}
use Rattle.std.proofs.Math.Option.{some}
use Rattle.files.specs.Basics.Lists.{each_e}
use Rattle.files.specs.Basics.Tests.{one}
use Rattle.files.specs.Decode.{Filed, node_rec, edge_rec, graph_recs, graph_bytes}
use Rattle.files.specs.Graph.{Node, Edge, Graph, size}
use Rattle.files.specs.Places.{max_nodes}
use Rattle.files.specs.Record.{six}
use Rattle.files.specs.Refusal.{Kind, refusal}
use Rattle.files.specs.Refusal.Laws.{refused_iff}
use Rattle.files.specs.Table.{Ragged}
use Rattle.files.specs.declared.record.Limits.{Limits}
use Rattle.files.specs.declared.record.Record.{Record}

-- number 1 ends its file's checks
pub ends_checks : (L : Limits) (k : Kind) (l : List ℕ) → Ragged l → refusal L k l ≡ some (1, 0)
ends_checks L k l f =
    (refused_iff L k l 1 0).1
    (record { from_k = omega arith; applies = (refl, f); first_record = λ j h a. not-suc-le-zero h; least_number = λ m h n j a. absurd (omega arith) })

abbrev Bytes : List ℕ → Type 0
Bytes l = (x : ℕ) → Memᴰ x l → x < 256

no_bytes : Bytes []
no_bytes x m = absurd (Memᴰ.not-nil m)

more_bytes : (y : ℕ) (ys : List ℕ) → y < 256 → Bytes ys → Bytes (y ∷ ys)
more_bytes y ys h f x m = go (Memᴰ.cases_cons m)
  where
    go : (x ≡ y) ⊎ Memᴰ x ys → x < 256
    go (inl e) = omega arith
    go (inr n) = f x n

six_bytes : (r : Record) → r.kind < 256 → r.first < 256 → r.second < 256 → r.third < 256 → r.fourth < 256 → r.fifth < 256 → Bytes (six r)
six_bytes r a b c d e f = more_bytes _ _ a (more_bytes _ _ b (more_bytes _ _ c (more_bytes _ _ d (more_bytes _ _ e (more_bytes _ _ f no_bytes)))))

one_byte : (b : Bool) → one b < 256
one_byte true = omega arith
one_byte false = omega arith

module _ (L : Limits) (G : Graph) (filed : Filed L G) (small : size G ≤ max_nodes) where
  node_bytes : (v : Node) → Memᴰ v G.nodes → Bytes (six (node_rec v))
  node_bytes v m = let a = filed.methods v m in six_bytes (node_rec v) (omega arith) (omega (arith, a.1)) (one_byte v.ret) (one_byte v.entry) (omega arith) (omega arith)

  edge_bytes : (e : Edge) → Memᴰ e G.edges → Bytes (six (edge_rec e))
  edge_bytes e m =
      six_bytes (edge_rec e) (omega arith) (omega (arith, filed.flow.from_node e m)) (omega (arith, filed.labels e m)) (omega (arith, filed.flow.to_node e m)) (omega arith) (omega arith)

  rec_bytes : (r : Record) → Memᴰ r (graph_recs G) → Bytes (six r)
  rec_bytes r m = go (Memᴰ.append_cases (map node_rec G.nodes) m)
    where
      go : Memᴰ r (map node_rec G.nodes) ⊎ Memᴰ r (map edge_rec G.edges) → Bytes (six r)
      go (inl k) = let a = Memᴰ.of_map node_rec G.nodes k in subst (λ (s : Record). Bytes (six s)) a.2 (node_bytes a.0 a.1)
      go (inr k) = let a = Memᴰ.of_map edge_rec G.edges k in subst (λ (s : Record). Bytes (six s)) a.2 (edge_bytes a.0 a.1)

  pub written_bytes : (x : ℕ) → Memᴰ x (graph_bytes G) → x < 256
  unfolding graph_bytes
  written_bytes x m = let a = each_e six (graph_recs G) x m in rec_bytes a.0 a.1 x a.2
