-- The worklist as the code runs it: the edges of a node and the calls of a method one by one, a point taken, and the start in a buffer of zeros.
use Rattle.std.specs.Prelude.{◌≡◌, ◌⊎◌, ◌↔◌, Bool, not, cond, ℕ, suc, ◌+◌, ◌-◌, ◌≤◌, ◌<◌, eqb, length, get_or}
use Rattle.std.proofs.Common.{sym, ap, ◌∙◌, inl, arith}
use Rattle.std.proofs.Math.Path.{subst}
use Rattle.std.proofs.Math.Logic.{inr}
use Rattle.std.proofs.Math.Bool.{true, false}
use mathlib.Core.List.{List, [], Memᴰ}
use Rattle.std.proofs.Math.Dec.{T}
use Rattle.files.specs.Access.{first_edge}
use Rattle.files.specs.Basics.Lists.{index_i}
use Rattle.files.specs.Basics.Tests.{eq_eqb}
use Rattle.files.specs.Cells.Laws.{cell_one}
use Rattle.files.specs.Graph.{Graph, Edge, size, node, no_edge, Flow}
use Rattle.files.specs.Places.{max_nodes}
use Rattle.files.specs.Rules.{Monitor, Event}
use Rattle.maximal.specs.Masks.{member}
use Rattle.maximal.specs.Masks.Laws.{member_none}
use Rattle.runs.specs.Prepared.{labelled, Tables}
use Rattle.runs.specs.Regions.{reached_base, waiting_base, watch_room}
use Rattle.runs.specs.Runs.{meth}
use Rattle.runs.specs.Summary.{Yields}
use Rattle.runs.specs.Worklist.{passed, point, reach, waits, sums, no_sums, queue, reached, Holding, Grew, Covered, Spread, EdgesRun, Starts, CoveredBut, CallsRun, EntriesIn, SummariesIn}
use Rattle.runs.specs.Worklist.Steps.{covered_kept, summed_kept, summed_i, small_event}
use Rattle.runs.specs.Worklist.Table.{none_summed, shaped_none}
use Rattle.runs.specs.Worklist.Unions.{passed_e}

module _ (G : Graph) (mon : Monitor) where
  abbrev pub edge_at : ℕ → Edge
  edge_at j = get_or G.edges j no_edge

  -- the edges between the first of g and the first of the next node are those of g
  pub edges_run : (leaves : (g j : ℕ) → j < length G.edges → (edge_at j).from ≡ g → (first_edge G g ≤ j) × (j < first_edge G (suc g))) (t : List (List ℕ)) (w : List ℕ) (g p : ℕ)
      → ((j : ℕ) → first_edge G g ≤ j → j < first_edge G (suc g) → j < length G.edges → T (not (node G (edge_at j).from).ret) → Covered G mon t w (edge_at j) p) → EdgesRun G mon t w g p
  unfolding EdgesRun
  edges_run leaves t w g p f e k d n =
      let a = index_i no_edge G.edges e k in
      let b = leaves g a.0 a.1 (ap (λ (x : Edge). x.from) a.2 ∙ d) in
      subst (λ (x : Edge). Covered G mon t w x p) a.2 (f a.0 b.0 b.1 a.1 (subst (λ (x : Edge). T (not (node G x.from).ret)) (sym a.2) n))

  pub calls_run : (i : ℕ) (callers : List ℕ) (t : List (List ℕ)) (w w' : List ℕ) (m : ℕ)
      → ((j : ℕ) → j < length G.edges → T (labelled G m j) → T (not (node G (edge_at j).from).ret) → (p : ℕ) → p < 8 → CoveredBut G mon i t w (edge_at j) p → Starts G mon callers w (edge_at j) p
      → Covered G mon t w' (edge_at j) p)
      → CallsRun G mon i callers t w w' m
  unfolding CallsRun
  calls_run i callers t w w' m f e k d n p hp =
      let a = index_i no_edge G.edges e k in
      subst (λ (x : Edge). CoveredBut G mon i t w x p → Starts G mon callers w x p → Covered G mon t w' x p) a.2
      (f a.0 a.1 (eq_eqb _ _ (ap (λ (x : Edge). x.label) a.2 ∙ d)) (subst (λ (x : Edge). T (not (node G x.from).ret)) (sym a.2) n) p hp)

  pub edges_run_e : (t : List (List ℕ)) (w : List ℕ) (g p : ℕ) → EdgesRun G mon t w g p → (e : Edge) → Memᴰ e G.edges → e.from ≡ g → T (not (node G e.from).ret) → Covered G mon t w e p
  unfolding EdgesRun
  edges_run_e t w g p f = f

  pub calls_run_e : (i : ℕ) (callers : List ℕ) (t : List (List ℕ)) (w w' : List ℕ) (m : ℕ) → CallsRun G mon i callers t w w' m
      → (e : Edge) → Memᴰ e G.edges → e.label ≡ m → T (not (node G e.from).ret) → (p : ℕ) → p < 8 → CoveredBut G mon i t w e p → Starts G mon callers w e p → Covered G mon t w' e p
  unfolding CallsRun
  calls_run_e i callers t w w' m f = f

  -- ---- a buffer of zeros

  module _ (flow : Flow G) (labels_small : (e : Edge) → Memᴰ e G.edges → e.label < 9) (mon_small : (q : ℕ) (v : Event) → q < 8 → mon q v < 8)
      (few_nodes : size G ≤ max_nodes) (w : List ℕ) (zeros : (q : ℕ) → reached_base ≤ q → get_or w q 0 ≡ 0) where
    reach_zero : (g p : ℕ) → reach w g p ≡ 0
    reach_zero g p = cell_one w reached_base (point g p) ∙ zeros (reached_base + point g p) (omega arith)

    waits_zero : (g p : ℕ) → waits w g p ≡ 0
    waits_zero g p = cell_one w waiting_base (point g p) ∙ zeros (waiting_base + point g p) (omega arith)

    none_in : (x q : ℕ) → x ≡ 0 → T (member x q) → ⊥
    none_in x q e t = subst T (ap (λ (k : ℕ). member k q) e ∙ member_none q) t

    pub holds_nothing : Tables G mon w → watch_room ≤ length w → Holding G mon 0 w
    holds_nothing t room = record {
      room = room;
      tables = t;
      reach_small = λ g p hg hp. omega (arith, reach_zero g p);
      reach_happens = λ g p q hg hp hq u. absurd (none_in (reach w g p) q (reach_zero g p) u);
      in_queue = λ i l. absurd (omega (arith, l));
      few = none_yet (reached w);
    }
      where
        none_yet : (n : ℕ) → 0 ≤ n
        none_yet n = omega arith

    covered_first : (e : Edge) (p : ℕ) → Covered G mon no_sums w e p
    unfolding Covered
    covered_first e p = inr (λ q hq t. absurd (go (eqb e.label 0) q hq t))
      where
        go : (b : Bool) (q : ℕ) → q < 8 → T (member (cond b (reach w e.from p) (passed mon (sums no_sums) (meth G e.from) e.label (reach w e.from p))) q) → ⊥
        go true q hq u = none_in (reach w e.from p) q (reach_zero e.from p) u
        go false q hq u =
            let a = passed_e mon (small_event G mon flow labels_small mon_small) (sums no_sums) (meth G e.from) e.label (reach w e.from p) q hq u in
            none_in (reach w e.from p) a.0 (reach_zero e.from p) a.4

    -- once the entries are in, all that waits is in the queue
    pub spread_first : (tail : ℕ) (w' : List ℕ) → Grew G mon 0 tail w w' → EntriesIn G mon (size G) w' → Spread G mon no_sums 0 tail w'
    spread_first tail w' grew entries = record {
      holding = grew.holding;
      shaped = shaped_none;
      sums_happen = λ m p q h l hp hq u. absurd (none_in (sums no_sums m p) q (none_summed m p h l hp) u);
      waiting = λ g p hg hp d. wait g p (grew.new_queued g p hg hp d);
      edges_done = λ e k n p hp. inr (covered_kept G mon flow labels_small mon_small 0 tail w w' grew no_sums e k p hp (covered_first e p));
      returns_done = λ g p hg hp r. inr (summed_kept G mon flow labels_small mon_small 0 tail w w' grew no_sums g p hg hp
          (summed_i G mon flow labels_small mon_small no_sums w g p (λ q hq t. absurd (none_in (reach w g p) q (reach_zero g p) t))));
      entries_in = entries;
    }
      where
        wait : (g p : ℕ) → (waits w g p ≡ 1) ⊎ ((i : ℕ) × (0 ≤ i) × (i < tail) × (queue w' i ≡ point g p)) → (i : ℕ) × (0 ≤ i) × (i < tail) × (queue w' i ≡ point g p)
        wait g p (inl d) = absurd (omega (arith, d, waits_zero g p))
        wait g p (inr a) = a

-- ---- the table that the search reads

pub table_yields : (G : Graph) (mon : Monitor) (t : List (List ℕ)) → SummariesIn G mon t
    → (l p s : ℕ) → l < 8 → p < 8 → s < 8 → T (member (get_or (get_or t l []) p 0) s) ↔ Yields G mon (suc l) p s
unfolding SummariesIn
table_yields G mon t found l p s hl hp hs =
    let e : suc l - 1 ≡ l = omega arith in
    subst (λ (i : ℕ). T (member (get_or (get_or t i []) p 0) s) ↔ Yields G mon (suc l) p s) e (found (suc l) p s (omega arith) (omega arith) hp hs)
