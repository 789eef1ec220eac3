-- Refusal 9 on records as they read: in an accepted graph the two tests agree, and a scan finds the first record that is not of the interface.
use Rattle.std.specs.Prelude.{◌≡◌, true, not, List, ℕ, ◌≤◌, ◌<◌, T}
use Rattle.std.proofs.Math.Path.{refl, ap}
use Rattle.std.proofs.Common.{sym, arith}
use Rattle.std.proofs.Math.Option.{Option, none, some}
use Rattle.std.proofs.Math.Decide.{dec_lt}
use Rattle.files.specs.Basics.First.{Finds, first_or, first_where, first_same, first_hit}
use Rattle.std.proofs.Math.Dec.{not_T}
use Rattle.files.specs.Record.{record_at, count, wrong, parsed}
use Rattle.files.specs.Record.Laws.{parsed_node, parsed_edge}
use Rattle.files.specs.Interface.{Interface}
use Rattle.files.specs.Refusal.{graph, nodes_of}
use Rattle.files.specs.Decode.Graphs.{is_node, is_edge}
use Rattle.files.specs.Access.{AcceptedAs}
use Rattle.files.specs.Decode.AnyFile.{none_applies}
use Rattle.files.specs.Refusal.Laws.{says_wrong}
use Rattle.files.specs.Sides.{foreign, foreign_of, first_foreign, first_foreign_record, ForeignAt}
use Rattle.files.specs.Sides.Laws.{foreign_finds}

module _ (I : Interface) (l : List ℕ) (a : AcceptedAs graph l) where
  right : (i : ℕ) → i < count l → T (not (wrong (record_at l i)))
  right i h = not_T (wrong (record_at l i)) (λ t. none_applies a.limits graph l a.accepted 3 i (h, (says_wrong (record_at l i)).say t))

  reads : (i : ℕ) → i < count l → foreign_of I (parsed (record_at l i)) ≡ foreign I l i
  reads i h = go (dec_lt i (nodes_of l))
    where
      go : Dec (i < nodes_of l) → foreign_of I (parsed (record_at l i)) ≡ foreign I l i
      go (yes b) =
          let k = is_node a.limits l a.accepted i b in
          rw (parsed_node (record_at l i) (right i h) k, k)
      go (no b) =
          let k = is_edge a.limits l a.accepted i (omega arith) h in
          rw (parsed_edge (record_at l i) (right i h) k, k)

  same : first_where (λ i. foreign_of I (parsed (record_at l i))) (count l) ≡ first_foreign I l
  unfolding first_foreign
  same = first_same (λ i. foreign_of I (parsed (record_at l i))) (foreign I l) (count l) reads

  pub foreign_at : (i : ℕ) → i < count l → first_where (λ i. foreign_of I (parsed (record_at l i))) i ≡ none → foreign_of I (parsed (record_at l i)) ≡ true → first_foreign_record I l ≡ i
  unfolding first_foreign_record
  foreign_at i h e t =
      rw (← same, first_hit (λ i. foreign_of I (parsed (record_at l i))) (count l) i h e (rw t tt))

  pub foreign_never : first_where (λ i. foreign_of I (parsed (record_at l i))) (count l) ≡ none → first_foreign_record I l ≡ count l
  unfolding first_foreign_record
  foreign_never e = rw (← same, e)

-- ---- the number that the scan gives, as a finding

module _ (I : Interface) (l : List ℕ) (i : ℕ) where
  pub record_found : i ≡ first_foreign_record I l → i < count l → first_foreign I l ≡ some i
  unfolding first_foreign_record
  record_found e h = go (first_foreign I l) e
    where
      go : (m : Option ℕ) → i ≡ first_or m (count l) → m ≡ some i
      go none q = absurd (omega arith)
      go (some j) q = ap (λ (n : ℕ). some n) (sym q)

  pub none_found : i ≡ first_foreign_record I l → count l ≤ i → first_foreign I l ≡ none
  unfolding first_foreign_record
  none_found e h = go (first_foreign I l) (foreign_finds I l) e
    where
      go : (m : Option ℕ) → Finds m (ForeignAt I l) → i ≡ first_or m (count l) → m ≡ none
      go none f q = refl
      go (some j) f q = absurd (omega (arith, f.0.0))
