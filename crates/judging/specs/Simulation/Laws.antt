-- The laws of simulation: refinement gives the largest simulation, the verdict says whether one covers the entries, a "no" names the lowest uncovered entry,
-- and the bytes written hold the relation.
use Rattle.std.specs.Prelude.{◌≡◌, ◌⊎◌, ◌↔◌, Bool, true, false, not, ◌&&◌, eqb, ltb}
use Rattle.std.proofs.Math.Path.{refl, ap, subst}
use Rattle.std.proofs.Common.{sym, ◌∙◌, inl, inr, lt→ltb, eqb→eq}
use mathlib.Core.List.{List, Memᴰ}
use Prim.Native.Nat.{ℕ, zero, suc, ◌+◌, ◌*◌, ◌/◌, ◌%◌, ◌≤◌, ◌<◌}
use Rattle.std.proofs.Math.Nat.{zero-add}
use native.Mathlib.Omega.{arith}
use Rattle.std.proofs.Math.Dec.{T, ltb→lt, T_not, not_T}
use Rattle.std.proofs.Math.ListN.{length, get_or}
use Rattle.files.specs.Basics.Binary.{value, bit, value_bit}
use Rattle.files.specs.Basics.Least.{least_passes, least_before, least_hit, least_lt}
use Rattle.files.specs.Basics.Lists.{each, span, length_each, getD_each}
use Rattle.files.specs.Basics.Settle.{Below, settled}
use Rattle.files.specs.Basics.Tables.{table, getD_table, length_span, getD_span}
use Rattle.files.specs.Basics.Tests.{imp, imp_i, imp_e, and_l, and_r, and_i, same, same→eq, same_refl, all, all_i, all_e, any_i, any_e, upto, upto_i, upto_e, grid, grid_i, length_grid, eq_eqb, one, not_all, not_imp, not_and, not_not, T_eq}
use Rattle.files.specs.Graph.{Node, Edge, Graph, size, node, Flow}
use Rattle.files.specs.Line.{relation_line}
use Rattle.files.specs.Line.Laws.{line_size}
use Rattle.files.specs.Places.{max_nodes}
use Rattle.judging.specs.Sheets.Laws.{least_at, least_none}
use Rattle.judging.specs.Simulation.{Simulation, Covered, Simulates, alike, matching, keeps, refined, related, covered, simulates, uncovered, relation_bytes}

pub alike_e : (a b : Node) → T (alike a b) → (b.method ≡ a.method) × (b.ret ≡ a.ret)
unfolding alike
alike_e a b t = (
  eqb→eq b.method a.method (and_l (eqb b.method a.method) (same b.ret a.ret) t),
  same→eq b.ret a.ret (and_r (eqb b.method a.method) (same b.ret a.ret) t),
)

pub alike_i : (a b : Node) → b.method ≡ a.method → b.ret ≡ a.ret → T (alike a b)
unfolding alike
alike_i a b p q = and_i (eqb b.method a.method) (same b.ret a.ret) (eq_eqb b.method a.method p) (rw q (same_refl a.ret))

-- what it is to be matching, as an edge
abbrev pub Answer : Graph → (ℕ → ℕ → Type 0) → ℕ → Edge → Type 0
Answer H R h e = (d : Edge) × Memᴰ d H.edges × (d.from ≡ h) × (d.label ≡ e.label) × R e.to d.to

matching_e : (H : Graph) (v : ℕ → ℕ → Bool) (h : ℕ) (e : Edge) → T (matching H v h e) → Answer H (λ g h. T (v g h)) h e
unfolding matching
matching_e H v h e t =
    let r = any_e (λ (d : Edge). eqb d.from h && (eqb d.label e.label && v e.to d.to)) H.edges t in
    let d = r.0 in
    let s = and_r (eqb d.from h) (eqb d.label e.label && v e.to d.to) r.2 in (
      d,
      r.1,
      eqb→eq _ _ (and_l (eqb d.from h) (eqb d.label e.label && v e.to d.to) r.2),
      eqb→eq _ _ (and_l (eqb d.label e.label) (v e.to d.to) s),
      and_r (eqb d.label e.label) (v e.to d.to) s,
    )

matching_i : (H : Graph) (v : ℕ → ℕ → Bool) (h : ℕ) (e : Edge) → Answer H (λ g h. T (v g h)) h e → T (matching H v h e)
unfolding matching
matching_i H v h e a =
    let d = a.0 in
    any_i (λ (d : Edge). eqb d.from h && (eqb d.label e.label && v e.to d.to)) H.edges d a.1
    (and_i (eqb d.from h) _ (eq_eqb _ _ a.2) (and_i (eqb d.label e.label) _ (eq_eqb _ _ a.3) a.4))

module _ (G H : Graph) where
  -- the fact behind one refinement
  pub record Keeps (R : ℕ → ℕ → Type 0) (g h : ℕ) : Type 0 where
    pub same_method : (node H h).method ≡ (node G g).method
    pub same_ret : (node H h).ret ≡ (node G g).ret
    pub matched : (e : Edge) → Memᴰ e G.edges → e.from ≡ g → Answer H R h e

  pub keeps_e : (v : ℕ → ℕ → Bool) (g h : ℕ) → T (keeps G H v g h) → Keeps (λ g h. T (v g h)) g h
  unfolding keeps
  keeps_e v g h t =
      let a = alike_e (node G g) (node H h) (and_l (alike (node G g) (node H h)) (all (λ (e : Edge). imp (eqb e.from g) (matching H v h e)) G.edges) t) in
      record {
        same_method = a.0;
        same_ret = a.1;
        matched = λ e m p. matching_e H v h e (imp_e (eqb e.from g) (matching H v h e) (all_e _ G.edges (and_r (alike (node G g) (node H h)) (all (λ (e : Edge). imp (eqb e.from g) (matching H v h e)) G.edges) t) e m) (eq_eqb _ _ p));
      }

  pub keeps_i : (v : ℕ → ℕ → Bool) (g h : ℕ) → Keeps (λ g h. T (v g h)) g h → T (keeps G H v g h)
  unfolding keeps
  keeps_i v g h k =
      and_i (alike (node G g) (node H h)) _ (alike_i (node G g) (node H h) k.same_method k.same_ret)
      (all_i _ G.edges (λ e m. imp_i (eqb e.from g) (matching H v h e) (λ p. matching_i H v h e (k.matched e m (eqb→eq _ _ p)))))

-- the verdict, as a fact of each entry
pub simulates_covers : (G H : Graph) → T (simulates G H) ↔ ((g : ℕ) → g < size G → T (node G g).entry → T (covered G H g))
unfolding simulates
simulates_covers G H = (
  λ t g h s. imp_e (node G g).entry (covered G H g) (all_e _ (upto (size G)) t g (upto_i (size G) g h)) s,
  λ f. all_i _ (upto (size G)) (λ g m. imp_i (node G g).entry (covered G H g) (f g (upto_e (size G) g m))),
)

module _ (G H : Graph) (fg : Flow G) (fh : Flow H) where
  abbrev pairs : List (ℕ × ℕ)
  pairs = grid (size G) (size H)

  abbrev at : ℕ → ℕ × ℕ → Bool
  at k x = refined G H k x.0 x.1

  at_start : (x : ℕ × ℕ) → Memᴰ x pairs → T (at zero x)
  unfolding refined
  at_start x m = tt

  at_mono : (j k : ℕ) → Below pairs (at j) (at k) → Below pairs (at (suc j)) (at (suc k))
  unfolding refined
  at_mono j k u x m t =
      let s = keeps_e G H (refined G H j) x.0 x.1 t in
      keeps_i G H (refined G H k) x.0 x.1 (record {
        same_method = s.same_method;
        same_ret = s.same_ret;
        matched = λ e n p.
            let a = s.matched e n p in
            let d = a.0 in
            (d, a.1, a.2, a.3, u (e.to, d.to) (grid_i (size G) (size H) e.to d.to (fg.to_node e n) (fh.to_node d a.1)) a.4);
      })

  pub related_e : (g h : ℕ) → T (related G H g h) → (g < size G) × (h < size H) × T (refined G H (size G * size H) g h)
  unfolding related
  related_e g h t =
      let s = and_r (ltb g (size G)) (ltb h (size H) && refined G H (size G * size H) g h) t in (
        ltb→lt g (size G) (and_l (ltb g (size G)) (ltb h (size H) && refined G H (size G * size H) g h) t),
        ltb→lt h (size H) (and_l (ltb h (size H)) (refined G H (size G * size H) g h) s),
        and_r (ltb h (size H)) (refined G H (size G * size H) g h) s,
      )

  related_i : (g h : ℕ) → g < size G → h < size H → T (refined G H (size G * size H) g h) → T (related G H g h)
  unfolding related
  related_i g h p q t = and_i (ltb g (size G)) _ (lt→ltb g (size G) p) (and_i (ltb h (size H)) _ (lt→ltb h (size H) q) t)

  -- related nodes stay related however far the refinement goes
  pub related_always : (g h : ℕ) → T (related G H g h) → (k : ℕ) → T (refined G H k g h)
  related_always g h t k =
      let r = related_e g h t in
      settled pairs at at_start at_mono (g, h) (grid_i (size G) (size H) g h r.0 r.1) (rw (length_grid (size G) (size H)) r.2) k

  related_keeps : (g h : ℕ) → T (related G H g h) → Keeps G H (λ g h. T (refined G H (size G * size H) g h)) g h
  unfolding refined
  related_keeps g h t = keeps_e G H (refined G H (size G * size H)) g h (related_always g h t (suc (size G * size H)))

  -- T2. Bounded refinement gives a simulation ..
  pub related_simulation : Simulation G H (λ g h. T (related G H g h))
  related_simulation = record {
    of_first = λ g h t. (related_e g h t).0;
    of_second = λ g h t. (related_e g h t).1;
    same_method = λ g h t. (related_keeps g h t).same_method;
    same_ret = λ g h t. (related_keeps g h t).same_ret;
    matched = λ g h t e m p.
        let a = (related_keeps g h t).matched e m p in
        let d = a.0 in
        (d, a.1, a.2, a.3, related_i e.to d.to (fg.to_node e m) (fh.to_node d a.1) a.4);
  }

  sim_refined : (R : ℕ → ℕ → Type 0) → Simulation G H R → (k g h : ℕ) → R g h → T (refined G H k g h)
  unfolding refined
  sim_refined R s zero g h r = tt
  sim_refined R s (suc k) g h r =
      keeps_i G H (refined G H k) g h (record {
        same_method = s.same_method g h r;
        same_ret = s.same_ret g h r;
        matched = λ e m p. let a = s.matched g h r e m p in (a.0, a.1, a.2, a.3, sim_refined R s k e.to a.0.to a.4);
      })

  -- .. and every simulation is below it
  pub largest : (R : ℕ → ℕ → Type 0) → Simulation G H R → (g h : ℕ) → R g h → T (related G H g h)
  largest R s g h r = related_i g h (s.of_first g h r) (s.of_second g h r) (sim_refined R s (size G * size H) g h r)

  pub covered_e : (g : ℕ) → T (covered G H g) → Covered H (λ g h. T (related G H g h)) g
  unfolding covered
  covered_e g t =
      let r = any_e (λ (h : ℕ). (node H h).entry && related G H g h) (upto (size H)) t in
      (r.0, and_l (node H r.0).entry (related G H g r.0) r.2, and_r (node H r.0).entry (related G H g r.0) r.2)

  pub covered_i : (g h : ℕ) → T (node H h).entry → T (related G H g h) → T (covered G H g)
  unfolding covered
  covered_i g h p q =
      any_i (λ (h : ℕ). (node H h).entry && related G H g h) (upto (size H)) h (upto_i (size H) h (related_e g h q).1) (and_i (node H h).entry (related G H g h) p q)

  -- the verdict is yes exactly where H simulates G
  pub verdict : T (simulates G H) ↔ Simulates G H
  verdict = (
    λ t. record {
      rel = λ g h. T (related G H g h);
      simulation = related_simulation;
      covers = λ g h s. covered_e g ((simulates_covers G H).0 t g h s);
    },
    λ s. (simulates_covers G H).1 (λ g h p. let c = s.covers g h p in covered_i g c.0 c.1 (largest s.rel s.simulation g c.0 c.2)),
  )

-- a graph simulates itself
pub simulates_refl : (G : Graph) → Flow G → Simulates G G
simulates_refl G fl = record {
  rel = λ g h. (g < size G) × (h ≡ g);
  simulation = record {
    of_first = λ g h r. r.0;
    of_second = λ g h r. rw r.1 r.0;
    same_method = λ g h r. rw r.1 refl;
    same_ret = λ g h r. rw r.1 refl;
    matched = λ g h r e m p. (e, m, p ∙ sym r.1, refl, (fl.to_node e m, refl));
  };
  covers = λ g h s. (g, s, (h, refl));
}

-- ---- the entry that a "no" names

module _ (G H : Graph) where
  abbrev lacks : ℕ → Bool
  lacks g = (node G g).entry && not (covered G H g)

  -- entries below it are covered
  pub uncovered_lowest : (g : ℕ) → g < uncovered G H → T (node G g).entry → T (covered G H g)
  unfolding uncovered
  uncovered_lowest g h e = go (not_and (node G g).entry (not (covered G H g)) (least_before lacks (size G) g h))
    where
      go : T (not (node G g).entry) ⊎ T (not (not (covered G H g))) → T (covered G H g)
      go (inl n) = absurd (T_not (node G g).entry n e)
      go (inr n) = not_not (covered G H g) n

  -- it is an entry of the first graph that is not covered
  pub uncovered_is : T (not (simulates G H)) → (uncovered G H < size G) × T (node G (uncovered G H)).entry × T (not (covered G H (uncovered G H)))
  unfolding simulates uncovered
  uncovered_is t =
      let a = not_all (λ (g : ℕ). imp (node G g).entry (covered G H g)) (upto (size G)) t in
      let h = upto_e (size G) a.0 a.1 in
      let b = not_imp (node G a.0).entry (covered G H a.0) a.2 in
      let p = and_i (node G a.0).entry (not (covered G H a.0)) b.0 b.1 in
      let c = least_passes lacks (size G) a.0 h p in
      (least_lt lacks (size G) a.0 h p, and_l (node G (uncovered G H)).entry (not (covered G H (uncovered G H))) c, and_r (node G (uncovered G H)).entry (not (covered G H (uncovered G H))) c)

-- ---- as a scan of nodes comes to them

off : (b : Bool) → T (not b) → b ≡ false
off true t = absurd t
off false t = refl

module _ (G H : Graph) where
  -- h is an entry that is related to g
  abbrev pub meets : ℕ → ℕ → Bool
  meets g h = (node H h).entry && related G H g h

  pub covered_at : (g h : ℕ) → h < size H → T (meets g h) → covered G H g ≡ true
  unfolding covered
  covered_at g h l t = T_eq (covered G H g) (any_i (meets g) (upto (size H)) h (upto_i (size H) h l) t)

  pub covered_none : (g : ℕ) → ((h : ℕ) → h < size H → T (not (meets g h))) → covered G H g ≡ false
  unfolding covered
  covered_none g f = off (covered G H g) (not_T (covered G H g) (λ t.
      let r = any_e (meets g) (upto (size H)) t in
      T_not (meets g r.0) (f r.0 (upto_e (size H) r.0 r.1)) r.2))

  -- g is an entry that is not covered
  abbrev pub misses : ℕ → Bool
  misses g = (node G g).entry && not (covered G H g)

  pub uncovered_at : (g : ℕ) → g < size G → ((u : ℕ) → u < g → T (not (misses u))) → T (misses g) → uncovered G H ≡ g
  unfolding uncovered
  uncovered_at g h f t = least_at misses (size G) g h f t

  pub uncovered_none : ((u : ℕ) → u < size G → T (not (misses u))) → uncovered G H ≡ size G
  unfolding uncovered
  uncovered_none f = least_none misses (size G) f

  -- the verdict, by the entry that a "no" names
  pub yes_past : size G ≤ uncovered G H → simulates G H ≡ true
  yes_past h = T_eq (simulates G H) ((simulates_covers G H).1 (λ g l t. uncovered_lowest G H g (omega arith) t))

  uncovered_misses : uncovered G H < size G → T (misses (uncovered G H))
  unfolding uncovered
  uncovered_misses h = least_hit misses (size G) h

  pub no_below : uncovered G H < size G → simulates G H ≡ false
  no_below h = off (simulates G H) (not_T (simulates G H) (λ t.
      let at = uncovered G H in
      let m = uncovered_misses h in
      T_not (covered G H at) (and_r (node G at).entry (not (covered G H at)) m) ((simulates_covers G H).0 t at h (and_l (node G at).entry (not (covered G H at)) m))))

-- ---- the bytes of the relation

-- bit h of a line
line_bit : (v : ℕ → Bool) (h : ℕ) → h < max_nodes → bit (get_or (relation_line v) (h / 8) 0) (h % 8) ≡ one (v h)
line_bit v h k =
    let a : h / 8 < 32 = omega arith in
    let b : h % 8 < 8 = omega arith in
    let e : 8 * (0 + h / 8) + h % 8 ≡ h = omega arith in
    ap (λ (n : ℕ). bit n (h % 8)) (getD_table (λ k. value (table v (8 * k) 8)) 0 32 (h / 8) 0 a)
    ∙ value_bit (table v (8 * (0 + h / 8)) 8) (h % 8)
    ∙ ap one (getD_table v (8 * (0 + h / 8)) 8 (h % 8) false b ∙ ap v e)

module _ (G H : Graph) where
  -- 32 bytes for each node of the first graph
  pub relation_length : length (relation_bytes G H) ≡ 32 * size G
  unfolding relation_bytes
  relation_length = length_each 32 (λ (g : ℕ). relation_line (related G H g)) (λ g. line_size (related G H g)) (span 0 (size G)) ∙ ap (λ (n : ℕ). 32 * n) (length_span 0 (size G))

  -- bit h of node g's bytes says whether the two are related
  pub relation_bit : (g h : ℕ) → g < size G → h < max_nodes → bit (get_or (relation_bytes G H) (32 * g + h / 8) 0) (h % 8) ≡ one (related G H g h)
  unfolding relation_bytes
  relation_bit g h hg hh =
      let a : h / 8 < 32 = omega arith in
      let b : g < length (span 0 (size G)) = subst (λ (n : ℕ). g < n) (sym (length_span 0 (size G))) hg in
      ap (λ (n : ℕ). bit n (h % 8)) (getD_each 32 (λ (g : ℕ). relation_line (related G H g)) (λ g. line_size (related G H g)) (span 0 (size G)) g (h / 8) 0 0 b a
      ∙ ap (λ (i : ℕ). get_or (relation_line (related G H i)) (h / 8) 0) (getD_span 0 (size G) g 0 hg ∙ zero-add g))
      ∙ line_bit (related G H g) h hh

  -- a line for each node
  pub relation_lines : relation_bytes G H ≡ each (λ (g : ℕ). relation_line (related G H g)) (span 0 (size G))
  unfolding relation_bytes
  relation_lines = refl
