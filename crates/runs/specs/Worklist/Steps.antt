-- The steps of the worklist: what running an edge adds happens and covers the edge; a point is taken from the queue; a summary grows; and where nothing waits the
-- summaries are found.
use Rattle.std.specs.Prelude.{◌≡◌, refl, ◌⊎◌, Bool, true, false, not, ◌&&◌, ◌||◌, ℕ, zero, suc, ◌/◌, ◌%◌, ◌≤◌, ◌<◌, ◌^◌, eqb, length}
use Rattle.std.proofs.Common.{sym, ap₂, ◌∙◌, eq-or-lt_of_le, le_trans, arith, T_not, eqb→eq, ne_eqb}
use Rattle.std.proofs.Math.Path.{ap, subst}
use Rattle.std.proofs.Math.Logic.{inl, inr}
use Rattle.std.proofs.Math.Bool.{cond}
use mathlib.Core.List.{List, Memᴰ}
use Rattle.std.proofs.Math.Decide.{ℕ_discrete}
use Rattle.std.specs.Int.Bits.{bit_or}
use Rattle.std.proofs.Math.Dec.{T}
use Rattle.files.specs.Basics.Lists.{span, span_i, span_e}
use Rattle.files.specs.Basics.Tests.{any, any_i, any_e, and_i, and_e, eq_eqb, or_l, or_r, or_e}
use Rattle.files.specs.Basics.Tables.{tally_le, tally_same}
use Rattle.files.specs.Cells.{cell, put_cell}
use Rattle.files.specs.Cells.Laws.{length_put_cell, byte_outside, cell_same, cell_apart, cell_other}
use Rattle.files.specs.Graph.{Graph, Edge, size, node, Flow}
use Rattle.files.specs.Places.{max_edges, max_nodes}
use Rattle.files.specs.Rules.{Monitor, Event, calls, returns_to}
use Rattle.maximal.specs.Masks.{member}
use Rattle.maximal.specs.Masks.Laws.{member_or, member_one}
use Rattle.runs.specs.Prepared.Files.{tables_kept}
use Rattle.runs.specs.Regions.{queue_cells, reached_base, waiting_base}
use Rattle.runs.specs.Runs.{meth, Runs}
use Rattle.runs.specs.Summary.{Inside, enter, inner, over, Yields}
use Rattle.runs.specs.Summary.Spots.{inside_now}
use Rattle.runs.specs.Worklist.{passed, point, reach, waits, sums, put_sum, queue, reached, after_edge, Queued, Holding, Grew, SumsHappen, Covered, Summed, SpreadBut, Spread, EntersIn, SummariesIn, CoveredBut, Links, StartsIn}
use Rattle.runs.specs.Worklist.Table.{sum_here, sum_other, shaped_put}
use Rattle.runs.specs.Worklist.Unions.{passed_e, passed_i, union_e, union_i}

module _ (G : Graph) (mon : Monitor) (flow : Flow G) (labels_small : (e : Edge) → Memᴰ e G.edges → e.label < 9)
    (mon_small : (q : ℕ) (v : Event) → q < 8 → mon q v < 8) where
  -- a method stays inside itself, among the graph's nodes
  pub inside_method : (m p g q : ℕ) → Inside G mon m p g q → meth G g ≡ m
  inside_method m p g q (enter m' p' n e) = e.in_method
  inside_method m p g q (inner m' p' g' q' e i r z) =
      flow.one_method e r.edge ∙ ap (meth G) r.leaves ∙ inside_method m' p' g' q' i
  inside_method m p g q (over m' p' g' q' e r s i x z j b) =
      flow.one_method e x.edge ∙ ap (meth G) x.leaves ∙ inside_method m' p' g' q' i

  inside_node : (m p g q : ℕ) → Inside G mon m p g q → g < size G
  inside_node m p g q (enter m' p' n e) = e.is_node
  inside_node m p g q (inner m' p' g' q' e i r z) = flow.to_node e r.edge
  inside_node m p g q (over m' p' g' q' e r s i x z j b) = flow.to_node e x.edge

  pub small_event : (q k a b : ℕ) → q < 8 → mon q (record { kind = k; m1 = a; m2 = b }) < 8
  small_event q k a b h = mon_small q (record { kind = k; m1 = a; m2 = b }) h

  positive : (l : ℕ) → eqb l 0 ≡ false → 0 < l
  positive zero c = absurd (subst (λ (b : Bool). cond b (Unit {0}) ⊥) c tt)
  positive (suc l) c = omega arith

  -- ---- one edge

  module _ (tail : ℕ) (w : List ℕ) (now : Holding G mon tail w) (t : List (List ℕ)) (happen : SumsHappen G mon t) (e : Edge) (k : Memᴰ e G.edges) (no_return : T (not (node G e.from).ret)) (p : ℕ) (hp : p < 8) where
    abbrev x : ℕ
    x = reach w e.from p

    abbrev runs : Runs G e.from e
    runs = record { edge = k; leaves = refl; no_return = no_return }

    at_target : (q : ℕ) → Inside G mon (meth G e.from) p e.to q → Inside G mon (meth G e.to) p e.to q
    at_target q i = subst (λ (m : ℕ). Inside G mon m p e.to q) (sym (flow.one_method e k)) i

    called : (q : ℕ) → 0 < e.label → q < 8 → T (member (passed mon (sums t) (meth G e.from) e.label x) q) → Inside G mon (meth G e.from) p e.to q
    called q z h u =
        let a = passed_e mon small_event (sums t) (meth G e.from) e.label x q h u in
        let i = now.reach_happens e.from p a.0 (flow.from_node e k) hp a.2 a.4 in
        let y = happen e.label (mon a.0 (calls (meth G e.from) e.label)) a.1 z (omega (arith, labels_small e k)) (mon_small a.0 _ a.2) a.3 a.5 in
        subst (Inside G mon (meth G e.from) p e.to)
        (ap₂ (λ (c d : ℕ). mon a.1 (returns_to c d)) (inside_method e.label _ y.at a.1 y.inside) (flow.one_method e k) ∙ a.6)
        (over (meth G e.from) p e.from a.0 e y.at a.1 i runs z y.inside y.returning)

    -- so do the states to which its callee returns, where the call starts in a state of the set
    pub links_happen : (i set y : ℕ) → 0 < e.label → Links G mon (meth G e.from) e.label i set y t → StartsIn G mon set w e p → (q : ℕ) → q < 8 → T (member y q)
        → Inside G mon (meth G e.to) p e.to q
    links_happen i set y z link start q hq v =
        let a = union_e (λ (s : ℕ). 2 ^ mon s (returns_to e.label (meth G e.from))) (sums t e.label i) q hq (subst (λ (c : ℕ). T (member c q)) link.1 v) in
        let d = link.0 start.0 start.1 start.3 in
        let r : mon a.0 (returns_to e.label (meth G e.from)) ≡ q = eqb→eq _ q (subst T (member_one _ q) a.3) in
        at_target q (called q z hq (subst (λ (c : ℕ). T (member (passed mon (sums t) (meth G e.from) e.label x) c)) r
        (passed_i mon small_event (sums t) (meth G e.from) e.label x start.0 a.0 start.1 a.1 start.2
        (subst (λ (c : ℕ). T (member (sums t e.label c) a.0)) (sym d) a.2))))

    -- what the edge makes of the states at its source happens at its target
    pub edge_happens : (q : ℕ) → q < 8 → T (member (after_edge G mon (sums t) e x) q) → Inside G mon (meth G e.to) p e.to q
    edge_happens q h v = at_target q (go (eqb e.label 0) refl v)
      where
        go : (b : Bool) → eqb e.label 0 ≡ b → T (member (cond b x (passed mon (sums t) (meth G e.from) e.label x)) q) → Inside G mon (meth G e.from) p e.to q
        go true d u = inner (meth G e.from) p e.from q e (now.reach_happens e.from p q (flow.from_node e k) hp h u) runs (eqb→eq e.label 0 (subst T (sym d) tt))
        go false d u = called q (positive e.label d) h u

  module _ (tail tail' : ℕ) (w w' : List ℕ) (grew : Grew G mon tail tail' w w') (t : List (List ℕ)) where
    module _ (e : Edge) (k : Memᴰ e G.edges) (p : ℕ) (hp : p < 8) where
      -- an edge that was run is covered
      pub run_covers : ((q : ℕ) → q < 8 → T (member (after_edge G mon (sums t) e (reach w e.from p)) q) → T (member (reach w' e.to p) q)) → Covered G mon t w' e p
      unfolding Covered
      run_covers f = go (grew.new_waits e.from p (flow.from_node e k) hp)
        where
          go : (reach w' e.from p ≡ reach w e.from p) ⊎ (waits w' e.from p ≡ 1)
              → (waits w' e.from p ≡ 1) ⊎ ((q : ℕ) → q < 8 → T (member (after_edge G mon (sums t) e (reach w' e.from p)) q) → T (member (reach w' e.to p) q))
          go (inl d) = inr (λ q h u. f q h (subst (λ (x : ℕ). T (member (after_edge G mon (sums t) e x) q)) d u))
          go (inr d) = inl d

      -- and stays so
      pub covered_kept : Covered G mon t w e p → Covered G mon t w' e p
      unfolding Covered
      covered_kept (inl d) = inl (grew.waits_kept e.from p (flow.from_node e k) hp d)
      covered_kept (inr f) = run_covers (λ q h u. grew.reach_kept e.to p q (flow.to_node e k) hp (f q h u))

      -- covered but for an entry state, too
      pub covered_but_kept : (i : ℕ) → CoveredBut G mon i t w e p → CoveredBut G mon i t w' e p
      unfolding CoveredBut
      covered_but_kept i (inl d) = inl (grew.waits_kept e.from p (flow.from_node e k) hp d)
      covered_but_kept i (inr f) = go (grew.new_waits e.from p (flow.from_node e k) hp)
        where
          go : (reach w' e.from p ≡ reach w e.from p) ⊎ (waits w' e.from p ≡ 1)
              → (waits w' e.from p ≡ 1)
              ⊎ ((q s : ℕ) → q < 8 → s < 8 → T (member (reach w' e.from p) q) → (mon q (calls (meth G e.from) e.label) ≡ i → ⊥)
              → T (member (sums t e.label (mon q (calls (meth G e.from) e.label))) s) → T (member (reach w' e.to p) (mon s (returns_to e.label (meth G e.from)))))
          go (inl d) = inr (λ q s hq hs v n u. grew.reach_kept e.to p _ (flow.to_node e k) hp (f q s hq hs (subst (λ (y : ℕ). T (member y q)) d v) n u))
          go (inr d) = inl d

      -- a call that was covered but for one entry state is covered once the states to which its callee returns from there are added
      pub links_cover : (i set y : ℕ) → 0 < e.label → i < 8 → Links G mon (meth G e.from) e.label i set y t → CoveredBut G mon i t w e p → ((q : ℕ) → T (member y q) → T (member (reach w' e.to p) q)) → Covered G mon t w' e p
      unfolding Covered CoveredBut
      links_cover i set y z hi link (inl d) add = inl (grew.waits_kept e.from p (flow.from_node e k) hp d)
      links_cover i set y z hi link (inr f) add = run_covers (λ q hq u. from_call q hq (subst (λ (c : ℕ). T (member c q)) (ap (λ (b : Bool). cond b (reach w e.from p) (passed mon (sums t) (meth G e.from) e.label (reach w e.from p))) (ne_eqb e.label 0 (λ d. omega (arith, d, z)))) u))
        where
          from_call : (q : ℕ) → q < 8 → T (member (passed mon (sums t) (meth G e.from) e.label (reach w e.from p)) q) → T (member (reach w' e.to p) q)
          from_call q hq u = go (passed_e mon small_event (sums t) (meth G e.from) e.label (reach w e.from p) q hq u)
            where
              go : (a : ℕ) × (s : ℕ) × (a < 8) × (s < 8) × T (member (reach w e.from p) a) × T (member (sums t e.label (mon a (calls (meth G e.from) e.label))) s)
                  × (mon s (returns_to e.label (meth G e.from)) ≡ q) → T (member (reach w' e.to p) q)
              go a = on (ℕ_discrete (mon a.0 (calls (meth G e.from) e.label)) i)
                where
                  on : Dec (mon a.0 (calls (meth G e.from) e.label) ≡ i) → T (member (reach w' e.to p) q)
                  on (yes d) = add q (subst (λ (c : ℕ). T (member c q)) (sym link.1)
                      (union_i (λ (s : ℕ). 2 ^ mon s (returns_to e.label (meth G e.from))) (sums t e.label i) q hq a.1 a.3
                      (subst (λ (c : ℕ). T (member (sums t e.label c) a.1)) d a.5) (subst T (sym (member_one _ q)) (eq_eqb _ q a.6))))
                  on (no n) = subst (λ (c : ℕ). T (member (reach w' e.to p) c)) a.6
                      (grew.reach_kept e.to p _ (flow.to_node e k) hp (f a.0 a.1 a.2 a.3 a.4 n a.5))

    pub summed_kept : (g p : ℕ) → g < size G → p < 8 → Summed G mon t w g p → Summed G mon t w' g p
    unfolding Summed
    summed_kept g p hg hp (inl d) = inl (grew.waits_kept g p hg hp d)
    summed_kept g p hg hp (inr f) = go (grew.new_waits g p hg hp)
      where
        go : (reach w' g p ≡ reach w g p) ⊎ (waits w' g p ≡ 1) → (waits w' g p ≡ 1) ⊎ ((q : ℕ) → q < 8 → T (member (reach w' g p) q) → T (member (sums t (meth G g) p) q))
        go (inl d) = inr (λ q h u. f q h (subst (λ (y : ℕ). T (member y q)) d u))
        go (inr d) = inl d

    -- growth keeps all that is done
    pub spread_grew : (E : Edge → ℕ → Type 0) (N : ℕ → ℕ → Type 0) (head : ℕ) → SpreadBut G mon E N t head tail w → head ≤ tail → SpreadBut G mon E N t head tail' w'
    spread_grew E N head s l = record {
      holding = grew.holding;
      shaped = s.shaped;
      sums_happen = s.sums_happen;
      waiting = λ g p hg hp d. wait g p hg hp (grew.new_queued g p hg hp d);
      edges_done = λ e k n p hp. edge e k p hp (s.edges_done e k n p hp);
      returns_done = λ g p hg hp r. node_on g p hg hp (s.returns_done g p hg hp r);
      entries_in = λ g p hg hp u. grew.reach_kept g p p hg hp (s.entries_in g p hg hp u);
    }
      where
        wait : (g p : ℕ) → g < size G → p < 8 → (waits w g p ≡ 1) ⊎ ((i : ℕ) × (tail ≤ i) × (i < tail') × (queue w' i ≡ point g p))
            → (i : ℕ) × (head ≤ i) × (i < tail') × (queue w' i ≡ point g p)
        wait g p hg hp (inl d) = let a = s.waiting g p hg hp d in (a.0, a.1, omega (arith, a.2, grew.longer), grew.queue_kept a.0 a.2 ∙ a.3)
        wait g p hg hp (inr a) = (a.0, omega (arith, a.1), a.2, a.3)

        edge : (e : Edge) → Memᴰ e G.edges → (p : ℕ) → p < 8 → E e p ⊎ Covered G mon t w e p → E e p ⊎ Covered G mon t w' e p
        edge e k p hp (inl d) = inl d
        edge e k p hp (inr c) = inr (covered_kept e k p hp c)

        node_on : (g p : ℕ) → g < size G → p < 8 → N g p ⊎ Summed G mon t w g p → N g p ⊎ Summed G mon t w' g p
        node_on g p hg hp (inl d) = inl d
        node_on g p hg hp (inr c) = inr (summed_kept g p hg hp c)

  -- what was due is done
  pub spread_done : (E : Edge → ℕ → Type 0) (N : ℕ → ℕ → Type 0) (t : List (List ℕ)) (head tail : ℕ) (w : List ℕ) → SpreadBut G mon E N t head tail w
      → ((e : Edge) → Memᴰ e G.edges → T (not (node G e.from).ret) → (p : ℕ) → p < 8 → E e p → Covered G mon t w e p)
      → ((g p : ℕ) → g < size G → p < 8 → T (node G g).ret → N g p → Summed G mon t w g p) → Spread G mon t head tail w
  spread_done E N t head tail w s f h = record {
    holding = s.holding;
    shaped = s.shaped;
    sums_happen = s.sums_happen;
    waiting = s.waiting;
    edges_done = λ e k n p hp. inr (edge e k n p hp (s.edges_done e k n p hp));
    returns_done = λ g p hg hp r. inr (node_on g p hg hp r (s.returns_done g p hg hp r));
    entries_in = s.entries_in;
  }
    where
      edge : (e : Edge) → Memᴰ e G.edges → T (not (node G e.from).ret) → (p : ℕ) → p < 8 → E e p ⊎ Covered G mon t w e p → Covered G mon t w e p
      edge e k n p hp (inl d) = f e k n p hp d
      edge e k n p hp (inr c) = c

      node_on : (g p : ℕ) → g < size G → p < 8 → T (node G g).ret → N g p ⊎ Summed G mon t w g p → Summed G mon t w g p
      node_on g p hg hp r (inl d) = h g p hg hp r d
      node_on g p hg hp r (inr c) = c

  only_right : {A : Type 0} → ⊥ ⊎ A → A
  only_right (inl z) = absurd z
  only_right (inr a) = a

  pub reached_most : (w : List ℕ) → reached w ≤ queue_cells
  unfolding reached
  reached_most w = tally_le (λ (h : ℕ). member (cell w reached_base 1 (h / 8)) (h % 8)) queue_cells

  pub summed_i : (t : List (List ℕ)) (w : List ℕ) (g p : ℕ) → ((q : ℕ) → q < 8 → T (member (reach w g p) q) → T (member (sums t (meth G g) p) q)) → Summed G mon t w g p
  unfolding Summed
  summed_i t w g p f = inr f

  -- ---- a point is taken

  module _ (few_nodes : size G ≤ max_nodes) (few_edges : length G.edges ≤ max_edges) (t : List (List ℕ)) (head tail : ℕ) (w : List ℕ) (s : Spread G mon t head tail w) (some : head < tail)
      (g p : ℕ) (hg : g < size G) (hp : p < 8) (there : queue w head ≡ point g p) where
    abbrev taken : List ℕ
    taken = put_cell w waiting_base 1 (point g p) 0

    reach_same : (h r : ℕ) → h < size G → r < 8 → reach taken h r ≡ reach w h r
    reach_same h r hh hr = cell_apart w waiting_base 1 (point g p) 0 reached_base 1 (point h r) (inl (omega (arith, few_nodes)))

    queue_same : (i : ℕ) → i < tail → tail ≤ queue_cells → queue taken i ≡ queue w i
    queue_same i l t = cell_apart w waiting_base 1 (point g p) 0 0 2 i (inl (omega arith))

    -- what still waits is another point
    other : (h r : ℕ) → h < size G → r < 8 → waits taken h r ≡ 1 → (point g p ≡ point h r → ⊥) × (waits w h r ≡ 1)
    other h r hh hr e = go (ℕ_discrete (point g p) (point h r))
      where
        go : Dec (point g p ≡ point h r) → (point g p ≡ point h r → ⊥) × (waits w h r ≡ 1)
        go (yes d) =
            let z : waits taken h r ≡ 0 = ap (λ (i : ℕ). cell taken waiting_base 1 i) (sym d) ∙ cell_same w waiting_base 1 (point g p) 0 (omega (arith, few_nodes, s.holding.room)) (omega arith) in
            absurd (omega (arith, e))
        go (no n) = (n, sym (cell_other w waiting_base 1 (point g p) (point h r) 0 n) ∙ e)

    covered_taken : (e : Edge) → Memᴰ e G.edges → (r : ℕ) → r < 8 → (point g p ≡ point e.from r → ⊥) → Covered G mon t w e r → Covered G mon t taken e r
    unfolding Covered
    covered_taken e k r hr n (inl d) = inl (cell_other w waiting_base 1 (point g p) (point e.from r) 0 n ∙ d)
    covered_taken e k r hr n (inr f) =
        inr (λ q hq u. subst (λ (y : ℕ). T (member y q)) (sym (reach_same e.to r (flow.to_node e k) hr))
        (f q hq (subst (λ (y : ℕ). T (member (after_edge G mon (sums t) e y) q)) (reach_same e.from r (flow.from_node e k) hr) u)))

    summed_taken : (h r : ℕ) → h < size G → r < 8 → (point g p ≡ point h r → ⊥) → Summed G mon t w h r → Summed G mon t taken h r
    unfolding Summed
    summed_taken h r hh hr n (inl d) = inl (cell_other w waiting_base 1 (point g p) (point h r) 0 n ∙ d)
    summed_taken h r hh hr n (inr f) = inr (λ q hq u. f q hq (subst (λ (y : ℕ). T (member y q)) (reach_same h r hh hr) u))

    reached_same : reached taken ≡ reached w
    unfolding reached
    reached_same =
        tally_same (λ (h : ℕ). member (cell taken reached_base 1 (h / 8)) (h % 8)) (λ (h : ℕ). member (cell w reached_base 1 (h / 8)) (h % 8)) queue_cells
        (λ h l. ap (λ (k : ℕ). member k (h % 8)) (cell_apart w waiting_base 1 (point g p) 0 reached_base 1 (h / 8) (inl (omega (arith, few_nodes)))))

    in_reach : tail ≤ queue_cells
    in_reach = le_trans s.holding.few (reached_most w)

    taken_holds : Holding G mon tail taken
    taken_holds = record {
      room = omega (arith, length_put_cell w waiting_base 1 (point g p) 0, s.holding.room);
      tables = tables_kept G mon w taken few_nodes few_edges (λ q a b. byte_outside w waiting_base 1 (point g p) 0 q (inl (omega arith))) s.holding.tables;
      reach_small = λ h r hh hr. subst (λ (k : ℕ). k < 256) (sym (reach_same h r hh hr)) (s.holding.reach_small h r hh hr);
      reach_happens = λ h r q hh hr hq t. s.holding.reach_happens h r q hh hr hq (subst (λ (k : ℕ). T (member k q)) (reach_same h r hh hr) t);
      in_queue = λ i l. queued_on i l (s.holding.in_queue i l);
      few = subst (λ (k : ℕ). tail ≤ k) (sym reached_same) s.holding.few;
    }
      where
        queued_on : (i : ℕ) → i < tail → Queued G mon w i → Queued G mon taken i
        queued_on i l a = record { its_node = a.its_node; its_state = a.its_state; is_node = a.is_node; is_state = a.is_state; is_there = queue_same i l in_reach ∙ a.is_there }

    -- its edges, or its states at a return node, are due
    pub taken_due : SpreadBut G mon (λ e r. (e.from ≡ g) × (r ≡ p)) (λ h r. (h ≡ g) × (r ≡ p)) t (suc head) tail taken
    taken_due = record {
      holding = taken_holds;
      shaped = s.shaped;
      sums_happen = s.sums_happen;
      waiting = λ h r hh hr d. let o = other h r hh hr d in wait h r o.0 (s.waiting h r hh hr o.1);
      edges_done = λ e k n r hr. edge e k r hr (ℕ_discrete (point g p) (point e.from r)) (only_right (s.edges_done e k n r hr));
      returns_done = λ h r hh hr t. node_on h r hh hr (ℕ_discrete (point g p) (point h r)) (only_right (s.returns_done h r hh hr t));
      entries_in = λ h r hh hr t. subst (λ (k : ℕ). T (member k r)) (sym (reach_same h r hh hr)) (s.entries_in h r hh hr t);
    }
      where
        wait : (h r : ℕ) → (point g p ≡ point h r → ⊥) → (i : ℕ) × (head ≤ i) × (i < tail) × (queue w i ≡ point h r) → (i : ℕ) × (suc head ≤ i) × (i < tail) × (queue taken i ≡ point h r)
        wait h r n a = go (eq-or-lt_of_le a.1)
          where
            go : (head ≡ a.0) ⊎ (head < a.0) → (i : ℕ) × (suc head ≤ i) × (i < tail) × (queue taken i ≡ point h r)
            go (inl e) = absurd (n (sym there ∙ ap (queue w) e ∙ a.3))
            go (inr l) = (a.0, l, a.2, queue_same a.0 a.2 in_reach ∙ a.3)

        edge : (e : Edge) → Memᴰ e G.edges → (r : ℕ) → r < 8 → Dec (point g p ≡ point e.from r) → Covered G mon t w e r → ((e.from ≡ g) × (r ≡ p)) ⊎ Covered G mon t taken e r
        edge e k r hr (yes d) c = let hf = flow.from_node e k in inl (omega arith, omega arith)
        edge e k r hr (no n) c = inr (covered_taken e k r hr n c)

        node_on : (h r : ℕ) → h < size G → r < 8 → Dec (point g p ≡ point h r) → Summed G mon t w h r → ((h ≡ g) × (r ≡ p)) ⊎ Summed G mon t taken h r
        node_on h r hh hr (yes d) c = inl (omega arith, omega arith)
        node_on h r hh hr (no n) c = inr (summed_taken h r hh hr n c)

  -- ---- a summary grows

  -- by the states at return node g, at a point of which nothing but its summary is due
  module _ (methods_small : (g : ℕ) → g < size G → (1 ≤ meth G g) × (meth G g ≤ 8)) (t : List (List ℕ)) (head tail : ℕ) (w : List ℕ) (g p : ℕ) (hg : g < size G)
      (hp : p < 8) (returns : T (node G g).ret)
      (s : SpreadBut G mon (λ e r. (e.from ≡ g) × (r ≡ p)) (λ h r. (h ≡ g) × (r ≡ p)) t head tail w) where
    abbrev m : ℕ
    m = meth G g

    abbrev both : ℕ
    both = bit_or (sums t m p) (reach w g p)

    abbrev raised : List (List ℕ)
    raised = put_sum t m p both

    hm : (1 ≤ m) × (m ≤ 8)
    hm = methods_small g hg

    abbrev Enters : Edge → ℕ → Type 0
    Enters e y = EntersIn G mon p e y

    enters? : (e : Edge) (y : ℕ) → Dec (Enters e y)
    enters? e y = go (any into (span 0 8)) refl
      where
        into : ℕ → Bool
        into q = member y q && eqb (mon q (calls (meth G e.from) e.label)) p

        go : (b : Bool) → any into (span 0 8) ≡ b → Dec (Enters e y)
        go true d =
            let a = any_e into (span 0 8) (subst T (sym d) tt) in
            let b = and_e (member y a.0) (eqb (mon a.0 (calls (meth G e.from) e.label)) p) a.2 in
            yes (a.0, omega (arith, (span_e 8 0 a.0 a.1).1), b.0, eqb→eq _ p b.1)
        go false d = no (λ a. subst T d (any_i into (span 0 8) a.0 (span_i 8 0 a.0 (omega arith) (omega (arith, a.1)))
            (and_i (member y a.0) (eqb (mon a.0 (calls (meth G e.from) e.label)) p) a.2 (eq_eqb _ p a.3))))

    due_none : (e : Edge) → T (not (node G e.from).ret) → (r : ℕ) → ((e.from ≡ g) × (r ≡ p)) ⊎ Covered G mon t w e r → Covered G mon t w e r
    due_none e n r (inl d) = absurd (T_not (node G g).ret (subst (λ (h : ℕ). T (not (node G h).ret)) d.0 n) returns)
    due_none e n r (inr c) = c

    -- where its states are in the summary already, all is done
    pub summed_before : ((q : ℕ) → q < 8 → T (member (reach w g p) q) → T (member (sums t m p) q)) → Spread G mon t head tail w
    summed_before f = spread_done (λ e r. (e.from ≡ g) × (r ≡ p)) (λ h r. (h ≡ g) × (r ≡ p)) t head tail w s (λ e k n r hr d. due_none e n r (inl d)) (λ h r hh hr u d. here h r d)
      where
        here : (h r : ℕ) → (h ≡ g) × (r ≡ p) → Summed G mon t w h r
        here h r d = subst (λ (h : ℕ). Summed G mon t w h r) (sym d.0) (subst (λ (r : ℕ). Summed G mon t w g r) (sym d.1) (summed_i t w g p f))

    in_both : (q : ℕ) → member both q ≡ (member (sums t m p) q || member (reach w g p) q)
    in_both q = member_or (sums t m p) (reach w g p) q

    here_now : sums raised m p ≡ both
    here_now = sum_here t s.shaped m p both hm.0 hm.1 hp

    same_sum : (l r : ℕ) → 1 ≤ l → l ≤ 8 → r < 8 → ((l ≡ m) × (r ≡ p) → ⊥) → sums raised l r ≡ sums t l r
    same_sum l r = sum_other t s.shaped m p both hm.0 hm.1 hp l r

    -- this summary, or another
    at_sum : (l r : ℕ) → ((l ≡ m) × (r ≡ p)) ⊎ ((l ≡ m) × (r ≡ p) → ⊥)
    at_sum l r = go (ℕ_discrete l m) (ℕ_discrete r p)
      where
        go : Dec (l ≡ m) → Dec (r ≡ p) → ((l ≡ m) × (r ≡ p)) ⊎ ((l ≡ m) × (r ≡ p) → ⊥)
        go (yes d) (yes e) = inl (d, e)
        go (yes d) (no n) = inr (λ a. n a.1)
        go (no n) e = inr (λ a. n a.0)

    sum_grows : (l r q : ℕ) → 1 ≤ l → l ≤ 8 → r < 8 → T (member (sums t l r) q) → T (member (sums raised l r) q)
    sum_grows l r q h1 hl hr u = go (at_sum l r)
      where
        go : ((l ≡ m) × (r ≡ p)) ⊎ ((l ≡ m) × (r ≡ p) → ⊥) → T (member (sums raised l r) q)
        go (inl e) =
            subst (λ (l : ℕ). T (member (sums raised l r) q)) (sym e.0) (subst (λ (r : ℕ). T (member (sums raised m r) q)) (sym e.1)
            (subst T (sym (ap (λ (k : ℕ). member k q) here_now ∙ in_both q)) (or_l (member (sums t m p) q) (member (reach w g p) q)
            (subst (λ (l : ℕ). T (member (sums t l p) q)) e.0 (subst (λ (r : ℕ). T (member (sums t l r) q)) e.1 u)))))
        go (inr n) = subst (λ (k : ℕ). T (member k q)) (sym (same_sum l r h1 hl hr n)) u

    sum_happens : SumsHappen G mon raised
    sum_happens l r q h1 hl hr hq u = go (at_sum l r)
      where
        here : T (member (sums t m p) q) ⊎ T (member (reach w g p) q) → Yields G mon m p q
        here (inl v) = s.sums_happen m p q hm.0 hm.1 hp hq v
        here (inr v) = record { at = g; inside = s.holding.reach_happens g p q hg hp hq v; returning = returns }

        go : ((l ≡ m) × (r ≡ p)) ⊎ ((l ≡ m) × (r ≡ p) → ⊥) → Yields G mon l r q
        go (inr n) = s.sums_happen l r q h1 hl hr hq (subst (λ (k : ℕ). T (member k q)) (same_sum l r h1 hl hr n) u)
        go (inl e) =
            subst (λ (l : ℕ). Yields G mon l r q) (sym e.0) (subst (λ (r : ℕ). Yields G mon m r q) (sym e.1)
            (here (or_e (member (sums t m p) q) (member (reach w g p) q)
            (subst T (ap (λ (k : ℕ). member k q) here_now ∙ in_both q) (subst (λ (l : ℕ). T (member (sums raised l p) q)) e.0 (subst (λ (r : ℕ). T (member (sums raised l r) q)) e.1 u))))))

    -- a call of another method, or one that does not enter it in state p, yields what it did
    after_raised : (e : Edge) → Memᴰ e G.edges → (y : ℕ) → (e.label ≡ m → Enters e y → ⊥) → (q : ℕ) → q < 8
        → T (member (after_edge G mon (sums raised) e y) q) → T (member (after_edge G mon (sums t) e y) q)
    after_raised e k y n q hq v = go (eqb e.label 0) refl v
      where
        go : (b : Bool) → eqb e.label 0 ≡ b → T (member (cond b y (passed mon (sums raised) (meth G e.from) e.label y)) q)
            → T (member (cond b y (passed mon (sums t) (meth G e.from) e.label y)) q)
        go true d u = u
        go false d u =
            let a = passed_e mon small_event (sums raised) (meth G e.from) e.label y q hq u in
            let into = mon a.0 (calls (meth G e.from) e.label) in
            let same : sums raised e.label into ≡ sums t e.label into =
            same_sum e.label into (positive e.label d) (omega (arith, labels_small e k)) (mon_small a.0 _ a.2) (λ c. n c.0 (a.0, a.2, a.4, c.1)) in
            subst (λ (c : ℕ). T (member (passed mon (sums t) (meth G e.from) e.label y) c)) a.6
            (passed_i mon small_event (sums t) (meth G e.from) e.label y a.0 a.1 a.2 a.3 a.4 (subst (λ (c : ℕ). T (member c a.1)) same a.5))

    covered_raised : (e : Edge) → Memᴰ e G.edges → (r : ℕ) → (e.label ≡ m → Enters e (reach w e.from r) → ⊥) → Covered G mon t w e r → Covered G mon raised w e r
    unfolding Covered
    covered_raised e k r n (inl d) = inl d
    covered_raised e k r n (inr f) = inr (λ q hq u. f q hq (after_raised e k (reach w e.from r) n q hq u))

    -- a call of it that was covered is so but for entry state p
    pub raised_but : (e : Edge) → Memᴰ e G.edges → T (not (node G e.from).ret) → 0 < e.label → (r : ℕ) → r < 8 → CoveredBut G mon p raised w e r
    unfolding Covered CoveredBut
    raised_but e k n z r hr = go (due_none e n r (s.edges_done e k n r hr))
      where
        go : (waits w e.from r ≡ 1) ⊎ ((q : ℕ) → q < 8 → T (member (after_edge G mon (sums t) e (reach w e.from r)) q) → T (member (reach w e.to r) q))
            → (waits w e.from r ≡ 1)
            ⊎ ((q c : ℕ) → q < 8 → c < 8 → T (member (reach w e.from r) q) → (mon q (calls (meth G e.from) e.label) ≡ p → ⊥)
            → T (member (sums raised e.label (mon q (calls (meth G e.from) e.label))) c) → T (member (reach w e.to r) (mon c (returns_to e.label (meth G e.from)))))
        go (inl d) = inl d
        go (inr f) = inr (λ q c hq hc u d v.
            let into = mon q (calls (meth G e.from) e.label) in
            let same : sums raised e.label into ≡ sums t e.label into = same_sum e.label into z (omega (arith, labels_small e k)) (mon_small q _ hq) (λ b. d b.1) in
            f (mon c (returns_to e.label (meth G e.from))) (mon_small c _ hc)
            (subst (λ (y : ℕ). T (member y (mon c (returns_to e.label (meth G e.from))))) (sym (ap (λ (b : Bool). cond b (reach w e.from r) (passed mon (sums t) (meth G e.from) e.label (reach w e.from r))) (ne_eqb e.label 0 (λ b. omega (arith, b, z)))))
            (passed_i mon small_event (sums t) (meth G e.from) e.label (reach w e.from r) q c hq hc u (subst (λ (b : ℕ). T (member b c)) same v))))

    summed_raised : (h r : ℕ) → h < size G → r < 8 → Summed G mon t w h r → Summed G mon raised w h r
    unfolding Summed
    summed_raised h r hh hr (inl d) = inl d
    summed_raised h r hh hr (inr f) = inr (λ q hq u. sum_grows (meth G h) r q (methods_small h hh).0 (methods_small h hh).1 hr (f q hq u))

    -- every call that enters its method in state p is due
    pub raised_due : both < 256 → SpreadBut G mon (λ e r. (e.label ≡ m) × Enters e (reach w e.from r)) (λ h r. ⊥) raised head tail w
    raised_due small = record {
      holding = s.holding;
      shaped = shaped_put t s.shaped m p both hm.0 hm.1 hp small;
      sums_happen = sum_happens;
      waiting = s.waiting;
      edges_done = λ e k n r hr. edge e k r (ℕ_discrete e.label m) (enters? e (reach w e.from r)) (due_none e n r (s.edges_done e k n r hr));
      returns_done = λ h r hh hr u. inr (node_on h r hh hr (s.returns_done h r hh hr u));
      entries_in = s.entries_in;
    }
      where
        edge : (e : Edge) → Memᴰ e G.edges → (r : ℕ) → Dec (e.label ≡ m) → Dec (Enters e (reach w e.from r)) → Covered G mon t w e r
            → ((e.label ≡ m) × Enters e (reach w e.from r)) ⊎ Covered G mon raised w e r
        edge e k r (yes d) (yes i) c = inl (d, i)
        edge e k r (yes d) (no n) c = inr (covered_raised e k r (λ q i. n i) c)
        edge e k r (no n) i c = inr (covered_raised e k r (λ q j. n q) c)

        node_on : (h r : ℕ) → h < size G → r < 8 → ((h ≡ g) × (r ≡ p)) ⊎ Summed G mon t w h r → Summed G mon raised w h r
        node_on h r hh hr (inl d) =
            subst (λ (h : ℕ). Summed G mon raised w h r) (sym d.0) (subst (λ (r : ℕ). Summed G mon raised w g r) (sym d.1) (summed_i raised w g p (λ q hq u.
            subst T (sym (ap (λ (k : ℕ). member k q) here_now ∙ in_both q)) (or_r (member (sums t m p) q) (member (reach w g p) q) u))))
        node_on h r hh hr (inr c) = summed_raised h r hh hr c

  -- ---- where nothing waits

  module _ (t : List (List ℕ)) (tail : ℕ) (w : List ℕ) (s : Spread G mon t tail tail w) where
    none_waits : (g p : ℕ) → g < size G → p < 8 → waits w g p ≡ 1 → ⊥
    none_waits g p hg hp d = let a = s.waiting g p hg hp d in omega (arith, a.1, a.2)

    edge_closed : (e : Edge) → Memᴰ e G.edges → T (not (node G e.from).ret) → (p q : ℕ) → p < 8 → q < 8
        → T (member (after_edge G mon (sums t) e (reach w e.from p)) q) → T (member (reach w e.to p) q)
    unfolding Covered
    edge_closed e k n p q hp hq u = go (only_right (s.edges_done e k n p hp))
      where
        go : (waits w e.from p ≡ 1) ⊎ ((q : ℕ) → q < 8 → T (member (after_edge G mon (sums t) e (reach w e.from p)) q) → T (member (reach w e.to p) q))
            → T (member (reach w e.to p) q)
        go (inl d) = absurd (none_waits e.from p (flow.from_node e k) hp d)
        go (inr f) = f q hq u

    summed_up : (g p q : ℕ) → g < size G → p < 8 → q < 8 → T (node G g).ret → T (member (reach w g p) q) → T (member (sums t (meth G g) p) q)
    unfolding Summed
    summed_up g p q hg hp hq r u = go (only_right (s.returns_done g p hg hp r))
      where
        go : (waits w g p ≡ 1) ⊎ ((q : ℕ) → q < 8 → T (member (reach w g p) q) → T (member (sums t (meth G g) p) q)) → T (member (sums t (meth G g) p) q)
        go (inl d) = absurd (none_waits g p hg hp d)
        go (inr f) = f q hq u

    cond_yes : (l a b : ℕ) → l ≡ 0 → cond (eqb l 0) a b ≡ a
    cond_yes l a b e = ap (λ (k : ℕ). cond (eqb k 0) a b) e

    cond_no : (l a b : ℕ) → 0 < l → cond (eqb l 0) a b ≡ b
    cond_no l a b h = ap (λ (c : Bool). cond c a b) (ne_eqb l 0 (λ e. omega arith))

    -- all that happens is reached
    all_reached : (m p g q : ℕ) → p < 8 → Inside G mon m p g q → T (member (reach w g p) q)
    all_reached m p g q hp (enter m' p' n e) = s.entries_in n p e.is_node hp e.is_entry
    all_reached m p g q hp (inner m' p' g' q' e i r z) =
        let u : T (member (reach w e.from p') q') = subst (λ (v : ℕ). T (member (reach w v p') q')) (sym r.leaves) (all_reached m' p' g' q' hp i) in
        edge_closed e r.edge (subst (λ (v : ℕ). T (not (node G v).ret)) (sym r.leaves) r.no_return) p' q' hp (inside_now G mon mon_small m' p' g' q' hp i)
        (subst (λ (y : ℕ). T (member y q')) (sym (cond_yes e.label _ _ z)) u)
    all_reached m p g q hp (over m' p' g' q' e r c' i x z j b) =
        let u = all_reached m' p' g' q' hp i in
        let hq = inside_now G mon mon_small m' p' g' q' hp i in
        let into = mon q' (calls (meth G g') e.label) in
        let hi = mon_small q' (calls (meth G g') e.label) hq in
        let v = all_reached e.label into r c' hi j in
        let ht = inside_now G mon mon_small e.label into r c' hi j in
        let y = summed_up r into c' (inside_node e.label into r c' j) hi ht b v in
        let same_m = inside_method e.label into r c' j in
        let from_g : meth G g' ≡ meth G e.from = ap (meth G) (sym x.leaves) in
        let y' : T (member (sums t e.label (mon q' (calls (meth G e.from) e.label))) c') =
        subst (λ (c : ℕ). T (member (sums t e.label (mon q' (calls c e.label))) c')) from_g (subst (λ (c : ℕ). T (member (sums t c into) c')) same_m y) in
        let made = passed_i mon small_event (sums t) (meth G e.from) e.label (reach w e.from p') q' c' hq ht
        (subst (λ (v : ℕ). T (member (reach w v p') q')) (sym x.leaves) u) y' in
        let end : mon c' (returns_to e.label (meth G e.from)) ≡ mon c' (returns_to (meth G r) (meth G e.to)) =
        ap₂ (λ (c d : ℕ). mon c' (returns_to c d)) (sym same_m) (sym (flow.one_method e x.edge)) in
        subst (λ (c : ℕ). T (member (reach w e.to p') c)) end
        (edge_closed e x.edge (subst (λ (v : ℕ). T (not (node G v).ret)) (sym x.leaves) x.no_return) p' _ hp (mon_small c' _ ht)
        (subst (λ (c : ℕ). T (member c (mon c' (returns_to e.label (meth G e.from))))) (sym (cond_no e.label _ _ z)) made))

    pub summaries_found : SummariesIn G mon t
    unfolding SummariesIn
    summaries_found m p q h1 hm hp hq = (s.sums_happen m p q h1 hm hp hq, back)
      where
        back : Yields G mon m p q → T (member (sums t m p) q)
        back y =
            subst (λ (c : ℕ). T (member (sums t c p) q)) (inside_method m p y.at q y.inside)
            (summed_up y.at p q (inside_node m p y.at q y.inside) hp hq y.returning (all_reached m p y.at q hp y.inside))
