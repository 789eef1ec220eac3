-- The records that leave a place, in the order of their bytes: they ascend, and they are those that the trail's definition lets leave it.
use Rattle.std.specs.Prelude.{◌≡◌, ◌⊎◌, Bool, not, cond, ℕ, zero, suc, ◌-◌, ◌≤◌, ◌<◌, T, eqb, length}
use Rattle.std.proofs.Math.Path.{refl, ap, subst}
use Rattle.std.proofs.Common.{sym, ap₂, ◌∙◌, arith, eqb→eq, ne_eqb}
use Rattle.std.proofs.Math.Logic.{inl, inr}
use Rattle.std.proofs.Math.Bool.{true, false}
use mathlib.Core.List.Memᴰ
use mathlib.Core.List.{List, [], ◌∷◌, ◌++◌, map, Memᴰ}
use Rattle.std.proofs.lemmas.List.{map-append}
use Rattle.files.specs.Access.{first_edge}
use Rattle.files.specs.Basics.Lexical.{Before}
use Rattle.files.specs.Basics.Lists.{put, keep, keep_i, keep_e, each, each_i, each_e, span, span_i, span_e, index_i, index_e}
use Rattle.files.specs.Basics.Order.{Ascends, ascends_append, ascends_map, ascends_keep, ascends_each, Less, span_ascends}
use Rattle.files.specs.Basics.Tests.{any_i, any_e, eq_eqb, T_eq}
use Rattle.files.specs.Decode.{key}
use Rattle.files.specs.Graph.{Graph, Edge, size, node, no_edge, Flow, EntryOf}
use Rattle.files.specs.Rules.{Monitor, Event, calls}
use Rattle.runs.specs.Runs.{meth, Runs}
use Rattle.runs.specs.Summary.{Place, is_entry_of}
use Rattle.runs.specs.Summary.Moves.{entry_e, entry_i}
use Rattle.runs.specs.Summary.Trails.{Rec, before, started, internal_rec, entered_rec, passed_rec, leaving}
use Rattle.runs.specs.Summary.Trails.Laws.{Leaves, steps_on, goes_in, goes_by, leaving_before}
use Rattle.runs.specs.Searching.{Sooner, edge_at, edges_from, internal_at, entry_recs, calls_from, entered_at, ends_in, passed_recs, passed_at, internals, entereds, passeds, outgoing, starts_of}

-- ---- lists by number

-- a stretch of numbers that ascends, with what is known of each
ascends_with : (P : ℕ → Type 0) (xs : List ℕ) → Ascends Less xs → ((i : ℕ) → Memᴰ i xs → P i) → Ascends (λ (i j : ℕ). (i < j) × P i × P j) xs
ascends_with P [] a f = tt
ascends_with P (x ∷ xs) a f = (λ y m. (a.0 y m, f x (Memᴰ.head refl), f y (Memᴰ.tail m)), ascends_with P xs a.1 (λ i m. f i (Memᴰ.tail m)))

-- one number more of a stretch
pub span_on : (j last : ℕ) → j < last → span j (last - j) ≡ j ∷ span (suc j) (last - suc j)
span_on j last h = let e : last - j ≡ suc (last - suc j) = omega arith in ap (span j) e

pub span_out : (j last : ℕ) → last ≤ j → span j (last - j) ≡ []
span_out j last h = let e : last - j ≡ 0 = omega arith in ap (span j) e

module _ (G : Graph) (mon : Monitor) (m : ℕ) where
  module _ (x : Place) where
    -- ---- what the parts hold

    internal_e : (j : ℕ) (t : Rec) → Memᴰ t (internal_at G mon x j)
        → ((edge_at G mon j).label ≡ 0) × (t ≡ record { at = x.at; state = x.now; step = 1; label = 0; to = (edge_at G mon j).to; now = x.now })
    internal_e j t k = go (eqb (edge_at G mon j).label 0) refl k
      where
        go : (b : Bool) → eqb (edge_at G mon j).label 0 ≡ b
            → Memᴰ t (cond b (record { at = x.at; state = x.now; step = 1; label = 0; to = (edge_at G mon j).to; now = x.now } ∷ []) [])
            → ((edge_at G mon j).label ≡ 0) × (t ≡ record { at = x.at; state = x.now; step = 1; label = 0; to = (edge_at G mon j).to; now = x.now })
        go true e n = (eqb→eq _ 0 (subst T (sym e) tt), Memᴰ.eq_of_singleton n)
        go false e n = absurd (Memᴰ.not-nil n)

    abbrev entry_rec : ℕ → ℕ → Rec
    entry_rec l n = record { at = x.at; state = x.now; step = 2; label = l; to = n; now = mon x.now (calls (meth G x.at) l) }

    entered_e : (l : ℕ) (t : Rec) → Memᴰ t (entered_at G mon x l)
        → T (calls_from G mon x.at (first_edge G x.at) l) × ((n : ℕ) × (n < size G) × T (is_entry_of G mon l n) × (t ≡ entry_rec l n))
    entered_e l t k = go (calls_from G mon x.at (first_edge G x.at) l) k
      where
        go : (b : Bool) → Memᴰ t (cond b (entry_recs G mon x l (span 0 (size G))) []) → T b × ((n : ℕ) × (n < size G) × T (is_entry_of G mon l n) × (t ≡ entry_rec l n))
        go true n =
            let a = Memᴰ.of_map (entry_rec l) (keep (is_entry_of G mon l) (span 0 (size G))) n in
            let b = keep_e (is_entry_of G mon l) (span 0 (size G)) a.0 a.1 in
            (tt, (a.0, omega (arith, span_e (size G) 0 a.0 b.0), b.1, sym a.2))
        go false n = absurd (Memᴰ.not-nil n)

    abbrev passing : ℕ → ℕ → Rec
    passing j q = record { at = x.at; state = x.now; step = 3; label = (edge_at G mon j).label; to = (edge_at G mon j).to; now = q }

    passed_e : (j : ℕ) (t : Rec) → Memᴰ t (passed_at G mon x j) → (0 < (edge_at G mon j).label) × ((q : ℕ) × (q < 8) × T (ends_in G mon (edge_at G mon j) x.now q) × (t ≡ passing j q))
    passed_e j t k = go (eqb (edge_at G mon j).label 0) refl k
      where
        pos : (l : ℕ) → eqb l 0 ≡ false → 0 < l
        pos zero c = absurd (subst (λ (b : Bool). cond b (Unit {0}) ⊥) c tt)
        pos (suc l) c = omega arith

        go : (b : Bool) → eqb (edge_at G mon j).label 0 ≡ b → Memᴰ t (cond b [] (passed_recs G mon x j (span 0 8)))
            → (0 < (edge_at G mon j).label) × ((q : ℕ) × (q < 8) × T (ends_in G mon (edge_at G mon j) x.now q) × (t ≡ passing j q))
        go true e n = absurd (Memᴰ.not-nil n)
        go false e n =
            let a = Memᴰ.of_map (passing j) (keep (ends_in G mon (edge_at G mon j) x.now) (span 0 8)) n in
            let b = keep_e (ends_in G mon (edge_at G mon j) x.now) (span 0 8) a.0 a.1 in
            (pos _ e, (a.0, omega (arith, span_e 8 0 a.0 b.0), b.1, sym a.2))

    -- ---- the order

    -- (both are records from x)
    by_step : (r t : Rec) → r.at ≡ x.at → t.at ≡ x.at → r.state ≡ x.now → t.state ≡ x.now → r.step < t.step → Sooner r t
    by_step r t a b c d h = inr (a ∙ sym b, inr (c ∙ sym d, inl h))

    -- edges of one node, later ones with a larger label, or the same label and a larger target
    module _ (ordered : (i j : ℕ) → i < j → j < length G.edges → Before (key (edge_at G mon i)) (key (edge_at G mon j)))
        (owns : (j : ℕ) → first_edge G x.at ≤ j → j < first_edge G (suc x.at) → (j < length G.edges) × ((edge_at G mon j).from ≡ x.at)) where
      abbrev Own : ℕ → Type 0
      Own j = (j < length G.edges) × ((edge_at G mon j).from ≡ x.at)

      later : (i j : ℕ) → i < j → Own i → Own j
          → ((edge_at G mon i).label < (edge_at G mon j).label) ⊎ (((edge_at G mon i).label ≡ (edge_at G mon j).label) × ((edge_at G mon i).to < (edge_at G mon j).to))
      later i j h a b = go (ordered i j h b.0)
        where
          go : Before (key (edge_at G mon i)) (key (edge_at G mon j))
              → ((edge_at G mon i).label < (edge_at G mon j).label) ⊎ (((edge_at G mon i).label ≡ (edge_at G mon j).label) × ((edge_at G mon i).to < (edge_at G mon j).to))
          go (inl l) = absurd (omega (arith, l, a.1, b.1))
          go (inr (e, inl l)) = inl l
          go (inr (e, inr (d, inl l))) = inr (d, l)
          go (inr (e, inr (d, inr (c, z)))) = absurd z

      owned : (j : ℕ) → first_edge G x.at ≤ j → Ascends (λ (i k : ℕ). (i < k) × Own i × Own k) (edges_from G mon x.at j)
      owned j h =
          ascends_with Own (edges_from G mon x.at j) (span_ascends (first_edge G (suc x.at) - j) j)
          (λ i k. let a = span_e (first_edge G (suc x.at) - j) j i k in owns i (omega (arith, a.0)) (omega (arith, a.0, a.1)))

      internals_ascend : (j : ℕ) → first_edge G x.at ≤ j → Ascends Sooner (internals G mon x j)
      unfolding internals
      internals_ascend j h = ascends_each (λ (i k : ℕ). (i < k) × Own i × Own k) Sooner (internal_at G mon x) one two (edges_from G mon x.at j) (owned j h)
        where
          one : (i : ℕ) → Ascends Sooner (internal_at G mon x i)
          one i = go (eqb (edge_at G mon i).label 0)
            where
              go : (b : Bool) → Ascends Sooner (cond b (record { at = x.at; state = x.now; step = 1; label = 0; to = (edge_at G mon i).to; now = x.now } ∷ []) [])
              go true = (λ y k. absurd (Memᴰ.not-nil k), tt)
              go false = tt

          two : (i k : ℕ) → (i < k) × Own i × Own k → (r t : Rec) → Memᴰ r (internal_at G mon x i) → Memᴰ t (internal_at G mon x k) → Sooner r t
          two i k a r t n o =
              let b = internal_e i r n in
              let c = internal_e k t o in
              subst (λ (u : Rec). Sooner u t) (sym b.1) (subst (Sooner _) (sym c.1) (inr (refl, inr (refl, inr (refl, inr (refl, inl (lower (later i k a.0 a.1 a.2) b.0 c.0)))))))
            where
              lower : ((edge_at G mon i).label < (edge_at G mon k).label) ⊎ (((edge_at G mon i).label ≡ (edge_at G mon k).label) × ((edge_at G mon i).to < (edge_at G mon k).to))
                  → (edge_at G mon i).label ≡ 0 → (edge_at G mon k).label ≡ 0 → (edge_at G mon i).to < (edge_at G mon k).to
              lower (inl l) p q = absurd (omega arith)
              lower (inr l) p q = l.1

      entries_ascend : (l : ℕ) (ns : List ℕ) → Ascends Less ns → Ascends Sooner (entry_recs G mon x l ns)
      entries_ascend l ns a =
          ascends_map Less Sooner (entry_rec l) (λ i k h. inr (refl, inr (refl, inr (refl, inr (refl, inl h))))) (keep (is_entry_of G mon l) ns) (ascends_keep Less (is_entry_of G mon l) ns a)

      entereds_ascend : (l : ℕ) → Ascends Sooner (entereds G mon x l)
      unfolding entereds
      entereds_ascend l = ascends_each Less Sooner (entered_at G mon x) one two (span l (9 - l)) (span_ascends (9 - l) l)
        where
          one : (l : ℕ) → Ascends Sooner (entered_at G mon x l)
          one l = go (calls_from G mon x.at (first_edge G x.at) l)
            where
              go : (b : Bool) → Ascends Sooner (cond b (entry_recs G mon x l (span 0 (size G))) [])
              go true = entries_ascend l (span 0 (size G)) (span_ascends (size G) 0)
              go false = tt

          two : (i k : ℕ) → i < k → (r t : Rec) → Memᴰ r (entered_at G mon x i) → Memᴰ t (entered_at G mon x k) → Sooner r t
          two i k h r t n o =
              let b = (entered_e i r n).1 in
              let c = (entered_e k t o).1 in
              subst (λ (u : Rec). Sooner u t) (sym b.3) (subst (Sooner _) (sym c.3) (inr (refl, inr (refl, inr (refl, inl h)))))

      states_ascend : (j : ℕ) (qs : List ℕ) → Ascends Less qs → Ascends Sooner (passed_recs G mon x j qs)
      states_ascend j qs a =
          ascends_map Less Sooner (passing j) (λ i k h. inr (refl, inr (refl, inr (refl, inr (refl, inr (refl, inl h)))))) (keep (ends_in G mon (edge_at G mon j) x.now) qs)
          (ascends_keep Less (ends_in G mon (edge_at G mon j) x.now) qs a)

      passeds_ascend : (j : ℕ) → first_edge G x.at ≤ j → Ascends Sooner (passeds G mon x j)
      unfolding passeds
      passeds_ascend j h = ascends_each (λ (i k : ℕ). (i < k) × Own i × Own k) Sooner (passed_at G mon x) one two (edges_from G mon x.at j) (owned j h)
        where
          one : (i : ℕ) → Ascends Sooner (passed_at G mon x i)
          one i = go (eqb (edge_at G mon i).label 0)
            where
              go : (b : Bool) → Ascends Sooner (cond b [] (passed_recs G mon x i (span 0 8)))
              go true = tt
              go false = states_ascend i (span 0 8) (span_ascends 8 0)

          two : (i k : ℕ) → (i < k) × Own i × Own k → (r t : Rec) → Memᴰ r (passed_at G mon x i) → Memᴰ t (passed_at G mon x k) → Sooner r t
          two i k a r t n o =
              let b = (passed_e i r n).1 in
              let c = (passed_e k t o).1 in
              subst (λ (u : Rec). Sooner u t) (sym b.3) (subst (Sooner _) (sym c.3) (inr (refl, inr (refl, inr (refl, lower (later i k a.0 a.1 a.2) b.0 c.0)))))
            where
              lower : ((edge_at G mon i).label < (edge_at G mon k).label) ⊎ (((edge_at G mon i).label ≡ (edge_at G mon k).label) × ((edge_at G mon i).to < (edge_at G mon k).to)) → (p q : ℕ)
                  → Before ((edge_at G mon i).label ∷ (edge_at G mon i).to ∷ p ∷ []) ((edge_at G mon k).label ∷ (edge_at G mon k).to ∷ q ∷ [])
              lower (inl l) p q = inl l
              lower (inr l) p q = inr (l.0, inl l.1)

      -- the records that enter a method come before those that pass a call over, and internal ones before both
      pub calls_ascend : (l : ℕ) → Ascends Sooner (entereds G mon x l ++ passeds G mon x (first_edge G x.at))
      unfolding entereds passeds
      calls_ascend l =
          ascends_append Sooner (entereds G mon x l) (passeds G mon x (first_edge G x.at)) (entereds_ascend l) (passeds_ascend (first_edge G x.at) (omega arith))
          (λ r t n o.
          let a = each_e (entered_at G mon x) (span l (9 - l)) r n in
          let b = each_e (passed_at G mon x) (edges_from G mon x.at (first_edge G x.at)) t o in
          let c = (entered_e a.0 r a.2).1 in
          let d = (passed_e b.0 t b.2).1 in
          subst (λ (u : Rec). Sooner u t) (sym c.3) (subst (Sooner _) (sym d.3) (inr (refl, inr (refl, inl (omega arith))))))

      pub outgoing_ascends : (j : ℕ) → first_edge G x.at ≤ j → Ascends Sooner (internals G mon x j ++ (entereds G mon x 1 ++ passeds G mon x (first_edge G x.at)))
      unfolding internals entereds passeds
      outgoing_ascends j h =
          ascends_append Sooner (internals G mon x j) (entereds G mon x 1 ++ passeds G mon x (first_edge G x.at)) (internals_ascend j h) (calls_ascend 1)
          (λ r t n o.
          let a = each_e (internal_at G mon x) (edges_from G mon x.at j) r n in
          let b = internal_e a.0 r a.2 in
          subst (λ (u : Rec). Sooner u t) (sym b.1) (later_step t (Memᴰ.append_cases (entereds G mon x 1) o)))
        where
          later_step : (t : Rec) → Memᴰ t (entereds G mon x 1) ⊎ Memᴰ t (passeds G mon x (first_edge G x.at)) → {k : ℕ}
              → Sooner (record { at = x.at; state = x.now; step = 1; label = 0; to = k; now = x.now }) t
          later_step t (inl n) =
              let a = each_e (entered_at G mon x) (span 1 (9 - 1)) t n in
              let c = (entered_e a.0 t a.2).1 in
              subst (Sooner _) (sym c.3) (inr (refl, inr (refl, inl (omega arith))))
          later_step t (inr n) =
              let b = each_e (passed_at G mon x) (edges_from G mon x.at (first_edge G x.at)) t n in
              let d = (passed_e b.0 t b.2).1 in
              subst (Sooner _) (sym d.3) (inr (refl, inr (refl, inl (omega arith))))

  -- ---- they are the records that leave the place

  module _ (flow : Flow G) (labels_small : (e : Edge) → Memᴰ e G.edges → e.label < 9) (mon_small : (q : ℕ) (v : Event) → q < 8 → mon q v < 8) (x : Place)
      (owns : (j : ℕ) → first_edge G x.at ≤ j → j < first_edge G (suc x.at) → (j < length G.edges) × ((edge_at G mon j).from ≡ x.at))
      (Leaves_in : (j : ℕ) → j < length G.edges → (edge_at G mon j).from ≡ x.at → (first_edge G x.at ≤ j) × (j < first_edge G (suc x.at)))
      (no_return : T (not (node G x.at).ret)) where
    abbrev first : ℕ
    first = first_edge G x.at

    in_edges : (i : ℕ) → Memᴰ i (edges_from G mon x.at first) → (i < length G.edges) × Runs G x.at (edge_at G mon i)
    in_edges i k =
        let a = span_e (first_edge G (suc x.at) - first) first i k in
        let b = owns i a.0 (omega (arith, a.0, a.1)) in
        (b.0, record { edge = index_e no_edge G.edges i b.0; leaves = b.1; no_return = no_return })

    edge_number : (e : Edge) → Runs G x.at e → (i : ℕ) × Memᴰ i (edges_from G mon x.at first) × (edge_at G mon i ≡ e)
    edge_number e r =
        let a = index_i no_edge G.edges e r.edge in
        let b = Leaves_in a.0 a.1 (ap (λ (y : Edge). y.from) a.2 ∙ r.leaves) in
        (a.0, span_i (first_edge G (suc x.at) - first) first a.0 b.0 (omega (arith, b.0, b.1)), a.2)

    -- a call of method l entered at an entry leaves
    pub entered_leaves : (l k : ℕ) → 1 ≤ l → T (calls_from G mon x.at first l) → EntryOf G l k → Leaves G mon flow labels_small mon_small m x (entry_rec x l k)
    entered_leaves l k h t d =
        let c = any_e (λ (i : ℕ). eqb (edge_at G mon i).label l) (edges_from G mon x.at first) t in
        let r = (in_edges c.0 c.1).1 in
        let e : (edge_at G mon c.0).label ≡ l = eqb→eq _ _ c.2 in
        subst (Leaves G mon flow labels_small mon_small m x)
        (ap₂ (λ (g i : ℕ). record { at = x.at; state = x.now; step = 2; label = i; to = k; now = mon x.now (calls (meth G g) i) }) r.leaves e)
        (goes_in (edge_at G mon c.0) k r (omega (arith, e, h)) (subst (λ (i : ℕ). EntryOf G i k) (sym e) d))

    -- each is one that leaves
    pub outgoing_leaves : (t : Rec) → Memᴰ t (outgoing G mon x) → Leaves G mon flow labels_small mon_small m x t
    unfolding outgoing internals entereds passeds
    outgoing_leaves t k = go (Memᴰ.append_cases (internals G mon x first) k)
      where
        calls_on : Memᴰ t (entereds G mon x 1) ⊎ Memᴰ t (passeds G mon x first) → Leaves G mon flow labels_small mon_small m x t
        calls_on (inl n) =
            let a = each_e (entered_at G mon x) (span 1 (9 - 1)) t n in
            let b = entered_e x a.0 t a.2 in
            let d = entry_e G mon a.0 b.1.0 b.1.1 b.1.2 in
            subst (Leaves G mon flow labels_small mon_small m x) (sym b.1.3) (entered_leaves a.0 b.1.0 (span_e 8 1 a.0 a.1).0 b.0 d)
        calls_on (inr n) =
            let a = each_e (passed_at G mon x) (edges_from G mon x.at first) t n in
            let b = passed_e x a.0 t a.2 in
            let r = (in_edges a.0 a.1).1 in
            subst (Leaves G mon flow labels_small mon_small m x) (sym b.1.3) (goes_by (edge_at G mon a.0) b.1.0 r b.0 b.1.1 b.1.2)

        go : Memᴰ t (internals G mon x first) ⊎ Memᴰ t (entereds G mon x 1 ++ passeds G mon x first) → Leaves G mon flow labels_small mon_small m x t
        go (inl n) =
            let a = each_e (internal_at G mon x) (edges_from G mon x.at first) t n in
            let b = internal_e x a.0 t a.2 in
            subst (Leaves G mon flow labels_small mon_small m x) (sym b.1) (steps_on (edge_at G mon a.0) (in_edges a.0 a.1).1 b.0)
        go (inr n) = calls_on (Memᴰ.append_cases (entereds G mon x 1) n)

    -- and all that leave are there
    pub leaves_outgoing : (t : Rec) → Leaves G mon flow labels_small mon_small m x t → Memᴰ t (outgoing G mon x)
    unfolding outgoing internals entereds passeds
    leaves_outgoing t (steps_on e r z) =
        let a = edge_number e r in
        Memᴰ.append_left _ (each_i (internal_at G mon x) (edges_from G mon x.at first) a.0 t a.1 (put a.0 a.2))
      where
        put : (i : ℕ) → edge_at G mon i ≡ e → Memᴰ (internal_rec G mon x e x.now) (internal_at G mon x i)
        put i q =
            subst (λ (b : Bool). Memᴰ (internal_rec G mon x e x.now) (cond b (record { at = x.at; state = x.now; step = 1; label = 0; to = (edge_at G mon i).to; now = x.now } ∷ []) []))
            (sym (T_eq (eqb (edge_at G mon i).label 0) (eq_eqb _ 0 (ap (λ (y : Edge). y.label) q ∙ z))))
            (Memᴰ.head (ap (λ (y : Edge). record { at = x.at; state = x.now; step = 1; label = 0; to = y.to; now = x.now }) (sym q)))
    leaves_outgoing t (goes_in e n r h d) =
        let a = edge_number e r in
        let l : e.label < 9 = labels_small e r.edge in
        Memᴰ.append_right (internals G mon x first) (Memᴰ.append_left _ (each_i (entered_at G mon x) (span 1 (9 - 1)) e.label t (span_i 8 1 e.label (omega arith) (omega arith)) (put a.0 a.1 a.2)))
      where
        same : entry_rec x e.label n ≡ entered_rec G mon x e n
        same = ap (λ (g : ℕ). record { at = x.at; state = x.now; step = 2; label = e.label; to = n; now = mon x.now (calls (meth G g) e.label) }) (sym r.leaves)

        put : (i : ℕ) → Memᴰ i (edges_from G mon x.at first) → edge_at G mon i ≡ e → Memᴰ (entered_rec G mon x e n) (entered_at G mon x e.label)
        put i k q =
            subst (λ (b : Bool). Memᴰ (entered_rec G mon x e n) (cond b (entry_recs G mon x e.label (span 0 (size G))) []))
            (sym (T_eq (calls_from G mon x.at first e.label)
            (any_i (λ (i : ℕ). eqb (edge_at G mon i).label e.label) (edges_from G mon x.at first) i k (eq_eqb _ _ (ap (λ (y : Edge). y.label) q)))))
            (subst (λ (u : Rec). Memᴰ u (entry_recs G mon x e.label (span 0 (size G)))) same
            (Memᴰ.map (entry_rec x e.label) (keep_i (is_entry_of G mon e.label) (span 0 (size G)) n (span_i (size G) 0 n (omega arith) (omega (arith, d.is_node))) (entry_i G mon e.label n d))))
    leaves_outgoing t (goes_by e q r h hq u) =
        let a = edge_number e r in
        Memᴰ.append_right (internals G mon x first) (Memᴰ.append_right (entereds G mon x 1) (each_i (passed_at G mon x) (edges_from G mon x.at first) a.0 t a.1 (put a.0 a.2)))
      where
        put : (i : ℕ) → edge_at G mon i ≡ e → Memᴰ (passed_rec G mon x e q) (passed_at G mon x i)
        put i k =
            subst (λ (b : Bool). Memᴰ (passed_rec G mon x e q) (cond b [] (passed_recs G mon x i (span 0 8))))
            (sym (ne_eqb (edge_at G mon i).label 0 (λ z. let l : (edge_at G mon i).label ≡ e.label = ap (λ (y : Edge). y.label) k in omega (arith, l, z))))
            (subst (λ (y : Edge). Memᴰ (passed_rec G mon x e q) (passed_recs_of y)) (sym k)
            (Memᴰ.map (passed_rec G mon x e) (keep_i (ends_in G mon e x.now) (span 0 8) q (span_i 8 0 q (omega arith) (omega arith)) u)))
          where
            passed_recs_of : Edge → List Rec
            passed_recs_of y = map (λ (q : ℕ). record { at = x.at; state = x.now; step = 3; label = y.label; to = y.to; now = q }) (keep (ends_in G mon y x.now) (span 0 8))

  -- ---- the starts

  pub starts_ascend : (ns : List ℕ) → Ascends Less ns → Ascends Sooner (starts_of G mon m ns)
  starts_ascend ns a = ascends_map Less Sooner (started G mon) (λ i k h. inl h) (keep (is_entry_of G mon m) ns) (ascends_keep Less (is_entry_of G mon m) ns a)

  pub starts_leave : leaving G mon m before ≡ starts_of G mon m (span 0 (size G))
  starts_leave = leaving_before G mon m

  -- ---- parts of the lists, one number more

  keep_more : (p : ℕ → Bool) (n : ℕ) (ns : List ℕ) → keep p (n ∷ ns) ≡ keep p (n ∷ []) ++ keep p ns
  keep_more p n ns = go (p n)
    where
      go : (b : Bool) → put b n (keep p ns) ≡ put b n [] ++ keep p ns
      go true = refl
      go false = refl

  -- what passes among numbers from j on: those at j, then the rest
  kept_on : {A : Type 0} (f : ℕ → A) (p : ℕ → Bool) (j last : ℕ) → j < last → map f (keep p (span j (last - j))) ≡ map f (keep p (span j 1)) ++ map f (keep p (span (suc j) (last - suc j)))
  kept_on f p j last h =
      ap (λ (ns : List ℕ). map f (keep p ns)) (span_on j last h) ∙ ap (map f) (keep_more p j (span (suc j) (last - suc j))) ∙ map-append f (keep p (j ∷ [])) (keep p (span (suc j) (last - suc j)))

  kept_out : {A : Type 0} (f : ℕ → A) (p : ℕ → Bool) (j last : ℕ) → last ≤ j → map f (keep p (span j (last - j))) ≡ []
  kept_out f p j last h = ap (λ (ns : List ℕ). map f (keep p ns)) (span_out j last h)

  pub starts_on : (n : ℕ) → n < size G → starts_of G mon m (span n (size G - n)) ≡ starts_of G mon m (span n 1) ++ starts_of G mon m (span (suc n) (size G - suc n))
  starts_on n h = kept_on (started G mon) (is_entry_of G mon m) n (size G) h

  pub starts_out : (n : ℕ) → size G ≤ n → starts_of G mon m (span n (size G - n)) ≡ []
  starts_out n h = kept_out (started G mon) (is_entry_of G mon m) n (size G) h

  module _ (x : Place) where
    pub entries_on : (l n : ℕ) → n < size G → entry_recs G mon x l (span n (size G - n)) ≡ entry_recs G mon x l (span n 1) ++ entry_recs G mon x l (span (suc n) (size G - suc n))
    entries_on l n h = kept_on (entry_rec x l) (is_entry_of G mon l) n (size G) h

    pub entries_out : (l n : ℕ) → size G ≤ n → entry_recs G mon x l (span n (size G - n)) ≡ []
    entries_out l n h = kept_out (entry_rec x l) (is_entry_of G mon l) n (size G) h

    pub states_on : (j r : ℕ) → r < 8 → passed_recs G mon x j (span r (8 - r)) ≡ passed_recs G mon x j (span r 1) ++ passed_recs G mon x j (span (suc r) (8 - suc r))
    states_on j r h = kept_on (passing x j) (ends_in G mon (edge_at G mon j) x.now) r 8 h

    pub states_out : (j r : ℕ) → 8 ≤ r → passed_recs G mon x j (span r (8 - r)) ≡ []
    states_out j r h = kept_out (passing x j) (ends_in G mon (edge_at G mon j) x.now) r 8 h

    pub internals_on : (j : ℕ) → j < first_edge G (suc x.at) → internals G mon x j ≡ internal_at G mon x j ++ internals G mon x (suc j)
    unfolding internals
    internals_on j h = ap (each (internal_at G mon x)) (span_on j (first_edge G (suc x.at)) h)

    pub internals_out : (j : ℕ) → first_edge G (suc x.at) ≤ j → internals G mon x j ≡ []
    unfolding internals
    internals_out j h = ap (each (internal_at G mon x)) (span_out j (first_edge G (suc x.at)) h)

    pub passeds_on : (j : ℕ) → j < first_edge G (suc x.at) → passeds G mon x j ≡ passed_at G mon x j ++ passeds G mon x (suc j)
    unfolding passeds
    passeds_on j h = ap (each (passed_at G mon x)) (span_on j (first_edge G (suc x.at)) h)

    pub passeds_out : (j : ℕ) → first_edge G (suc x.at) ≤ j → passeds G mon x j ≡ []
    unfolding passeds
    passeds_out j h = ap (each (passed_at G mon x)) (span_out j (first_edge G (suc x.at)) h)

    pub entereds_on : (l : ℕ) → l < 9 → entereds G mon x l ≡ entered_at G mon x l ++ entereds G mon x (suc l)
    unfolding entereds
    entereds_on l h = ap (each (entered_at G mon x)) (span_on l 9 h)

    pub entereds_out : (l : ℕ) → 9 ≤ l → entereds G mon x l ≡ []
    unfolding entereds
    entereds_out l h = ap (each (entered_at G mon x)) (span_out l 9 h)

    pub outgoing_is : outgoing G mon x ≡ internals G mon x (first_edge G x.at) ++ (entereds G mon x 1 ++ passeds G mon x (first_edge G x.at))
    unfolding outgoing
    outgoing_is = refl
