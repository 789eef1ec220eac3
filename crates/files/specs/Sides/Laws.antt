-- The tests of 9 and 10 say what the table says; a graph file with no foreign record is of its interface.
use Rattle.std.specs.Prelude.{◌≡◌, ◌⊎◌, Bool, not, ◌&&◌, ℕ, ◌≤◌, ◌<◌, T}
use Rattle.std.proofs.Common.{sym, subst, inl, inr, arith, T_not}
use mathlib.Core.List.{List, Memᴰ}
use Rattle.std.proofs.Math.Option.{none}
use Rattle.std.proofs.Math.Decide.{dec_lt}
use Rattle.std.proofs.Math.Dec.{not_T}
use Rattle.files.specs.Basics.First.{Finds, scan_finds}
use Rattle.files.specs.Basics.Lists.{span, span_i}
use Rattle.files.specs.Basics.Says.{Says, says_eq, says_lt, says_not, says_and, says_or}
use Rattle.files.specs.Basics.Tests.{any_e, any_i, and_l, and_r, and_i, decide}
use Rattle.files.specs.Decode.{decode_graph}
use Rattle.files.specs.Decode.Graphs.{decoded_size, decoded_node, is_node, is_edge, edge_e, few}
use Rattle.files.specs.Graph.{Node, Edge, size, node}
use Rattle.files.specs.Interface.{Interface, provides, requires_method, Labelled, Of}
use Rattle.files.specs.Interface.Laws.{in_set_small}
use Rattle.files.specs.Record.{record_at, count}
use Rattle.files.specs.Refusal.{graph, refusal, nodes_of}
use Rattle.files.specs.Sides.{foreign, Foreign, first_foreign, ForeignAt, shares, Shares, lacks, unprovided, Unprovided}
use Rattle.files.specs.declared.record.Limits.{Limits}

says_itself : (b : Bool) → Says b (T b)
says_itself b = record { say = λ t. t; hear = λ t. t }

says_foreign : (I : Interface) (l : List ℕ) (i : ℕ) → Says (foreign I l i) (Foreign I l i)
says_foreign I l i =
    says_or (says_and (says_eq _ _) (says_not (says_itself (provides I (record_at l i).first))))
    (says_and (says_eq _ _) (says_and (says_lt _ _) (says_not (says_itself (requires_method I (record_at l i).second)))))

pub foreign_finds : (I : Interface) (l : List ℕ) → Finds (first_foreign I l) (ForeignAt I l)
unfolding first_foreign
foreign_finds I l = scan_finds (foreign I l) (Foreign I l) (count l) (says_foreign I l)

pub says_shares : (I J : Interface) → Says (shares I J) (Shares I J)
unfolding shares
says_shares I J = record {
  say = λ t.
      let a = any_e (λ (m : ℕ). provides I m && provides J m) (span 1 8) t in
      (a.0, and_l (provides I a.0) (provides J a.0) a.2, and_r (provides I a.0) (provides J a.0) a.2);
  hear = λ s.
      let b = in_set_small I.provided s.0 s.1 in
      any_i (λ (m : ℕ). provides I m && provides J m) (span 1 8) s.0 (span_i 8 1 s.0 b.0 (omega (arith, b.1))) (and_i (provides I s.0) (provides J s.0) s.1 s.2);
}

says_lacks : (I : Interface) → Says (lacks I) ((k : ℕ) × T (requires_method I k) × (T (provides I k) → ⊥))
unfolding lacks
says_lacks I = record {
  say = λ t.
      let a = any_e (λ (k : ℕ). requires_method I k && not (provides I k)) (span 1 8) t in
      (a.0, and_l (requires_method I a.0) _ a.2, T_not (provides I a.0) (and_r (requires_method I a.0) _ a.2));
  hear = λ s.
      let b = in_set_small I.required s.0 s.1 in
      any_i (λ (k : ℕ). requires_method I k && not (provides I k)) (span 1 8) s.0 (span_i 8 1 s.0 b.0 (omega (arith, b.1)))
      (and_i (requires_method I s.0) _ s.1 (not_T (provides I s.0) s.2));
}

pub says_unprovided : (I : Interface) (m : ℕ) → Says (unprovided I m) (Unprovided I m)
unfolding unprovided
says_unprovided I m = says_or (says_not (says_itself (provides I m))) (says_lacks I)

-- a graph file that is accepted and has no foreign record holds a graph of the interface
pub none_foreign : (L : Limits) (I : Interface) (l : List ℕ) → refusal L graph l ≡ none → ((i : ℕ) → ForeignAt I l i → ⊥) → Of I (decode_graph l)
none_foreign L I l accepted f = record { methods = meths; calls = calls_in }
  where
    meths : (g : ℕ) → g < size (decode_graph l) → T (provides I (node (decode_graph l) g).method)
    meths g h = go (decide (provides I (record_at l g).first))
      where
        k : g < nodes_of l
        k = subst (λ (n : ℕ). g < n) (decoded_size L l accepted) h

        go : T (provides I (record_at l g).first) ⊎ T (not (provides I (record_at l g).first)) → T (provides I (node (decode_graph l) g).method)
        go (inl t) = subst (λ (v : Node). T (provides I v.method)) (sym (decoded_node L l accepted g k)) t
        go (inr t) = absurd (f g (omega (arith, few L l accepted, k), inl (is_node L l accepted g k, T_not (provides I (record_at l g).first) t)))

    calls_in : (e : Edge) → Memᴰ e (decode_graph l).edges → Labelled I e.label
    calls_in e m = let r = edge_e L l accepted e m in subst (λ (x : Edge). Labelled I x.label) r.3 (go r.0 r.1 r.2 (dec_lt 0 (record_at l r.0).second) (decide (requires_method I (record_at l r.0).second)))
      where
        go : (i : ℕ) → nodes_of l ≤ i → i < count l → Dec (0 < (record_at l i).second) → T (requires_method I (record_at l i).second) ⊎ T (not (requires_method I (record_at l i).second))
            → Labelled I (record_at l i).second
        go i a b (no h) d = inl (omega arith)
        go i a b (yes h) (inl t) = inr t
        go i a b (yes h) (inr t) = absurd (f i (b, inr (is_edge L l accepted i a b, (h, T_not (requires_method I (record_at l i).second) t))))
