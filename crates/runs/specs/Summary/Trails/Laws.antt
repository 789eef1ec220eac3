-- The trail is a way to a bad state wherever there is a bad run, has the fewest records and, of those, the smallest bytes.
-- Its theorems that rest on a definition which a must-fail edit turns stand in proofs/Theorems/Summary/Trails/Laws.
use Rattle.std.specs.Prelude.{◌≡◌, refl, ◌⊎◌, Bool, true, false, not, ◌&&◌, ℕ, suc, ◌≤◌, ◌*◌, ◌<◌, T, ltb, length, get_or}
use Rattle.std.proofs.Common.{sym, ap₂, ◌∙◌, inl, inr, arith, ltb→lt, lt→ltb, lit<}
use Rattle.std.proofs.Math.Path.{ap, subst}
use mathlib.Core.List.Memᴰ
use mathlib.Core.List.{List, [], ◌∷◌, ◌++◌, map, Memᴰ}
use Rattle.std.proofs.Math.Dec.{eqb, eqb→eq}
use Rattle.files.specs.Basics.Lexical.{Before}
use Rattle.files.specs.Basics.Lists.{put, keep, keep_i, keep_e, each, each_i, each_e, length_each, span, span_i, span_e}
use Rattle.files.specs.Basics.Shortest.{To, there, by, ways, to_ways, short_way, best_to, best_fewest, best_first}
use Rattle.files.specs.Basics.Tests.{any, any_i, and_i, and_e, eq_eqb}
use Rattle.files.specs.Decode.Listed.{decode_each}
use Rattle.files.specs.Graph.{Graph, Edge, size, node, Flow, EntryOf}
use Rattle.files.specs.Places.{record_len}
use Rattle.files.specs.Rules.{Event, calls, Monitor}
use Rattle.runs.specs.Runs.{meth, Runs}
use Rattle.runs.specs.Summary.{Trail, starts, steps, enters, passes, Place, is_entry_of, callee, spots, all_places}
use Rattle.runs.specs.Summary.Moves.{passes_e, callee_i, no_ret, entry_e, entry_i, into_is, out}
use Rattle.runs.specs.Summary.Places.{trail_moves, trail_now, places_i}
use Rattle.runs.specs.Summary.Spots.{spot, spots_sound, spots_complete}
use Rattle.runs.specs.Summary.Trails.{Rec, trail_rec_bytes, trail_record, rec_of, read_trail, Where, before, here, end, is_bad, started, internal_rec, entered_rec, passed_rec, recs, leaving, trail, trail_bytes}
use Rattle.std.proofs.lemmas.List.{length-map}

module _ (G : Graph) (mon : Monitor) (flow : Flow G) (labels_small : (e : Edge) → Memᴰ e G.edges → e.label < 9)
    (mon_small : (q : ℕ) (v : Event) → q < 8 → mon q v < 8) (m : ℕ) where
  abbrev pub place : ℕ → ℕ → Place
  place g q = record { at = g; now = q }

  -- trails come to this point
  abbrev Comes : Where → Type 0
  Comes before = Unit {0}
  Comes (here x) = Trail G mon m x.at x.now

  -- ---- the records, as facts

  pub data Leaves (x : Place) : Rec → Type 0 where
    steps_on : (e : Edge) → Runs G x.at e → e.label ≡ 0 → Leaves x (internal_rec G mon x e x.now)
    goes_in : (e : Edge) (n : ℕ) → Runs G x.at e → 0 < e.label → EntryOf G e.label n → Leaves x (entered_rec G mon x e n)
    goes_by : (e : Edge) (q : ℕ) → Runs G x.at e → 0 < e.label → q < 8 → T (any (callee G mon e x.now q) (spots G mon)) → Leaves x (passed_rec G mon x e q)

  abbrev runs_at : Place → Edge → Bool
  runs_at x e = eqb e.from x.at && not (node G x.at).ret

  abbrev ins : Edge → ℕ → Bool
  ins e n = ltb 0 e.label && is_entry_of G mon e.label n

  abbrev overs : Place → Edge → ℕ → Bool
  overs x e q = ltb 0 e.label && any (callee G mon e x.now q) (spots G mon)

  recs_e : (x : Place) (e : Edge) (r : Rec) → Runs G x.at e → Memᴰ r (recs G mon x e) → Leaves x r
  unfolding recs
  recs_e x e r y k = go (Memᴰ.append_cases (map (internal_rec G mon x e) (keep (λ q. eqb e.label 0) (x.now ∷ []))) k)
    where
      rest : Memᴰ r (map (entered_rec G mon x e) (keep (ins e) (span 0 (size G)))) ⊎ Memᴰ r (map (passed_rec G mon x e) (keep (overs x e) (span 0 8))) → Leaves x r
      rest (inl j) =
          let a = Memᴰ.of_map (entered_rec G mon x e) (keep (ins e) (span 0 (size G))) j in
          let b = keep_e (ins e) (span 0 (size G)) a.0 a.1 in
          let c = and_e (ltb 0 e.label) _ b.1 in
          let h : a.0 < size G = omega (arith, span_e (size G) 0 a.0 b.0) in
          subst (Leaves x) a.2 (goes_in e a.0 y (ltb→lt 0 e.label c.0) (entry_e G mon e.label a.0 h c.1))
      rest (inr j) =
          let a = Memᴰ.of_map (passed_rec G mon x e) (keep (overs x e) (span 0 8)) j in
          let b = keep_e (overs x e) (span 0 8) a.0 a.1 in
          let c = and_e (ltb 0 e.label) _ b.1 in
          let h : a.0 < 8 = omega (arith, span_e 8 0 a.0 b.0) in
          subst (Leaves x) a.2 (goes_by e a.0 y (ltb→lt 0 e.label c.0) h c.1)

      go : Memᴰ r (map (internal_rec G mon x e) (keep (λ q. eqb e.label 0) (x.now ∷ [])))
          ⊎ Memᴰ r (map (entered_rec G mon x e) (keep (ins e) (span 0 (size G))) ++ map (passed_rec G mon x e) (keep (overs x e) (span 0 8))) → Leaves x r
      go (inl j) =
          let a = Memᴰ.of_map (internal_rec G mon x e) (keep (λ q. eqb e.label 0) (x.now ∷ [])) j in
          let b = keep_e (λ q. eqb e.label 0) (x.now ∷ []) a.0 a.1 in
          let d : a.0 ≡ x.now = Memᴰ.eq_of_singleton b.0 in
          subst (Leaves x) (ap (internal_rec G mon x e) (sym d) ∙ a.2) (steps_on e y (eqb→eq e.label 0 b.1))
      go (inr j) = rest (Memᴰ.append_cases (map (entered_rec G mon x e) (keep (ins e) (span 0 (size G)))) j)

  pub leaves_e : (x : Place) (r : Rec) → Memᴰ r (leaving G mon m (here x)) → Leaves x r
  unfolding leaving
  leaves_e x r k =
      let a = each_e (recs G mon x) (keep (runs_at x) G.edges) r k in
      let b = keep_e (runs_at x) G.edges a.0 a.1 in
      let c = and_e (eqb a.0.from x.at) _ b.1 in
      recs_e x a.0 r (record { edge = b.0; leaves = eqb→eq _ _ c.0; no_return = c.1 }) a.2

  -- an edge that runs at x gives its records
  edge_leaves : (x : Place) (e : Edge) (r : Rec) → Runs G x.at e → Memᴰ r (recs G mon x e) → Memᴰ r (leaving G mon m (here x))
  unfolding leaving
  edge_leaves x e r y k =
      each_i (recs G mon x) (keep (runs_at x) G.edges) e r
      (keep_i (runs_at x) G.edges e y.edge (and_i (eqb e.from x.at) _ (eq_eqb e.from x.at y.leaves) y.no_return)) k

  pub leaves_i : (x : Place) (r : Rec) → Leaves x r → Memᴰ r (leaving G mon m (here x))
  unfolding recs
  leaves_i x r (steps_on e y z) =
      edge_leaves x e _ y (Memᴰ.append_left _ (Memᴰ.map (internal_rec G mon x e) (keep_i (λ q. eqb e.label 0) (x.now ∷ []) x.now (Memᴰ.head refl) (eq_eqb e.label 0 z))))
  leaves_i x r (goes_in e n y h d) =
      edge_leaves x e _ y (Memᴰ.append_right (map (internal_rec G mon x e) (keep (λ q. eqb e.label 0) (x.now ∷ [])))
      (Memᴰ.append_left _ (Memᴰ.map (entered_rec G mon x e) (keep_i (ins e) (span 0 (size G)) n (span_i (size G) 0 n (omega arith) (omega (arith, d.is_node)))
      (and_i (ltb 0 e.label) _ (lt→ltb 0 e.label h) (entry_i G mon e.label n d))))))
  leaves_i x r (goes_by e q y h l t) =
      edge_leaves x e _ y (Memᴰ.append_right (map (internal_rec G mon x e) (keep (λ q. eqb e.label 0) (x.now ∷ [])))
      (Memᴰ.append_right (map (entered_rec G mon x e) (keep (ins e) (span 0 (size G))))
      (Memᴰ.map (passed_rec G mon x e) (keep_i (overs x e) (span 0 8) q (span_i 8 0 q (omega arith) (omega arith)) (and_i (ltb 0 e.label) _ (lt→ltb 0 e.label h) t)))))

  pub start_e : (r : Rec) → Memᴰ r (leaving G mon m before) → (n : ℕ) × EntryOf G m n × (started G mon n ≡ r)
  unfolding leaving
  start_e r k =
      let a = Memᴰ.of_map (started G mon) (keep (is_entry_of G mon m) (span 0 (size G))) k in
      let b = keep_e (is_entry_of G mon m) (span 0 (size G)) a.0 a.1 in
      let h : a.0 < size G = omega (arith, span_e (size G) 0 a.0 b.0) in
      (a.0, entry_e G mon m a.0 h b.1, a.2)

  pub start_i : (n : ℕ) → EntryOf G m n → Memᴰ (started G mon n) (leaving G mon m before)
  unfolding leaving
  start_i n d =
      Memᴰ.map (started G mon) (keep_i (is_entry_of G mon m) (span 0 (size G)) n (span_i (size G) 0 n (omega arith) (omega (arith, d.is_node))) (entry_i G mon m n d))

  -- ---- a path to a bad point is a bad trail, and the other way round

  leaves_comes : (x : Place) (r : Rec) → Leaves x r → Comes (here x) → Comes (end r)
  leaves_comes x r (steps_on e y z) c = steps x.at x.now e c y z
  leaves_comes x r (goes_in e n y h d) c =
      subst (λ (q : ℕ). Trail G mon m n q) (into_is G mon x.at x.now e y) (enters x.at x.now e n c y h d)
  leaves_comes x r (goes_by e q y h l t) c =
      trail_moves G mon m x.at x.now q e c y.edge (sym y.leaves) (no_ret G x.at e y)
      (passes_e G mon (spots G mon) (spots_sound G mon) e x.now q h t)

  leaving_comes : (w : Where) (r : Rec) → Memᴰ r (leaving G mon m w) → Comes w → Comes (end r)
  leaving_comes before r k c = let a = start_e r k in subst (λ (r : Rec). Comes (end r)) a.2 (starts a.0 a.1)
  leaving_comes (here x) r k c = leaves_comes x r (leaves_e x r k) c

  bad_here : (w : Where) → T (is_bad w) → Comes w → (g : ℕ) × Trail G mon m g 7
  bad_here before t c = absurd t
  bad_here (here x) t c = (x.at, subst (λ (q : ℕ). Trail G mon m x.at q) (eqb→eq x.now 7 t) c)

  -- (the point stays a variable: an index of what is matched)
  pub path_bad : (w : Where) (rs : List Rec) → To (leaving G mon m) end trail_rec_bytes is_bad w rs → Comes w → (g : ℕ) × Trail G mon m g 7
  path_bad w rs (there w' t) c = bad_here w' t c
  path_bad w rs (by w' r ss k p) c = path_bad (end r) ss p (leaving_comes w' r k c)

  abbrev pub Path : Where → List Rec → Type 0
  Path w rs = To (leaving G mon m) end trail_rec_bytes is_bad w rs

  pub trail_path : (g q : ℕ) → Trail G mon m g q → (rs : List Rec) → Path (here (place g q)) rs → (ss : List Rec) × Path before ss
  trail_path g q (starts n d) rs p = (_, by before (started G mon n) rs (start_i n d) p)
  trail_path g q (steps g' q' e t y z) rs p =
      let x = place g' q' in trail_path g' q' t _ (by (here x) (internal_rec G mon x e q') rs (leaves_i x _ (steps_on e y z)) p)
  trail_path g q (enters g' q' e n t y h d) rs p =
      let x = place g' q' in
      trail_path g' q' t _ (by (here x) (entered_rec G mon x e n) rs (leaves_i x _ (goes_in e n y h d))
      (subst (λ (i : ℕ). Path (here (place n i)) rs) (into_is G mon g' q' e y) p))
  trail_path g q (passes g' q' e r s t y h j b) rs p =
      let x = place g' q' in
      let hq = mon_small q' _ (trail_now G mon mon_small m g' q' t) in
      let z = spot e.label (mon q' (calls (meth G g') e.label)) r s in
      let k = spots_complete G mon flow labels_small mon_small e.label _ r s (labels_small e y.edge) hq j in
      let c = any_i (callee G mon e q' (out G mon e r s)) (spots G mon) z k
      (callee_i G mon e q' (out G mon e r s) z refl (into_is G mon g' q' e y) b refl) in
      trail_path g' q' t _ (by (here x) (passed_rec G mon x e (out G mon e r s)) rs
      (leaves_i x _ (goes_by e _ y h (trail_now G mon mon_small m g q (passes g' q' e r s t y h j b)) c)) p)

  -- ---- the trail

  abbrev points : List Where
  points = before ∷ map here (all_places G mon)

  leaves_in : (x : Place) (r : Rec) → x.now < 8 → Leaves x r → Memᴰ (end r) (map here (all_places G mon))
  leaves_in x r h (steps_on e y z) = Memᴰ.map here (places_i G mon e.to x.now (flow.to_node e y.edge) h)
  leaves_in x r h (goes_in e n y l d) = Memᴰ.map here (places_i G mon n _ d.is_node (mon_small x.now _ h))
  leaves_in x r h (goes_by e q y l hq t) = Memᴰ.map here (places_i G mon e.to q (flow.to_node e y.edge) hq)

  abbrev now_of : Where → ℕ
  now_of before = 0
  now_of (here x) = x.now

  places_now : (x : Place) → Memᴰ x (all_places G mon) → x.now < 8
  unfolding all_places
  places_now x k =
      let c = each_e (λ (g : ℕ). map (place g) (span 0 8)) (span 0 (size G)) x k in
      let d = Memᴰ.of_map (place c.0) (span 0 8) c.2 in
      let e : d.0 ≡ x.now = ap (λ (y : Place). y.now) d.2 in
      omega (arith, span_e 8 0 d.0 d.1)

  points_now : (w : Where) → Memᴰ w points → now_of w < 8
  points_now w k = go (Memᴰ.cases_cons k)
    where
      go : (w ≡ before) ⊎ Memᴰ w (map here (all_places G mon)) → now_of w < 8
      go (inl e) = subst (λ (w : Where). now_of w < 8) (sym e) (lit< tt)
      go (inr j) = let a = Memᴰ.of_map here (all_places G mon) j in subst (λ (w : Where). now_of w < 8) a.2 (places_now a.0 a.1)

  stays_in : (w : Where) → Memᴰ w points → (r : Rec) → Memᴰ r (leaving G mon m w) → Memᴰ (end r) points
  stays_in before k r n =
      let a = start_e r n in
      Memᴰ.tail (subst (λ (r : Rec). Memᴰ (end r) (map here (all_places G mon))) a.2 (Memᴰ.map here (places_i G mon a.0 0 a.1.is_node (lit< tt))))
  stays_in (here x) k r n = Memᴰ.tail (leaves_in x r (points_now (here x) k) (leaves_e x r n))

  -- the bytes of a record tell where it ends
  one_end : (r s : Rec) → trail_rec_bytes r ≡ trail_rec_bytes s → end r ≡ end s
  one_end r s e = ap (λ (l : List ℕ). here (record { at = get_or l 4 0; now = get_or l 5 0 })) e

  module _ (rs : List Rec) (p : Path before rs) where
    near : (j : ℕ) × (j < length points) × T (ways (leaving G mon m) end trail_rec_bytes is_bad j before)
    near =
        short_way (leaving G mon m) end trail_rec_bytes is_bad points stays_in before (Memᴰ.head refl) (length rs) (to_ways (leaving G mon m) end trail_rec_bytes is_bad before rs p)

    near_le : near.0 ≤ suc (length (all_places G mon))
    near_le = let h : length (map here (all_places G mon)) ≡ length (all_places G mon) = length-map (all_places G mon) here in omega (arith, near.1)

    -- where any path comes to a bad state, the trail does
    pub trail_to : Path before (trail G mon m)
    unfolding trail
    trail_to = best_to (leaving G mon m) end trail_rec_bytes is_bad (suc (length (all_places G mon))) before near.0 near_le near.2

    -- with the fewest records
    pub trail_fewest : length (trail G mon m) ≤ length rs
    unfolding trail
    trail_fewest = best_fewest (leaving G mon m) end trail_rec_bytes is_bad (suc (length (all_places G mon))) before near.0 near_le near.2 rs p

    -- and, of those, the smallest bytes
    pub trail_first : length rs ≡ length (trail G mon m) → Before (each trail_rec_bytes rs) (each trail_rec_bytes (trail G mon m)) → ⊥
    unfolding trail
    trail_first e =
        best_first (leaving G mon m) end trail_rec_bytes is_bad (suc (length (all_places G mon))) before near.0 near_le near.2 (λ r s. refl)
        (λ w. Memᴰ w points) stays_in (λ x a r s k j. one_end r s) (Memᴰ.head refl) rs p e

pub leaving_before : (G : Graph) (mon : Monitor) (m : ℕ) → leaving G mon m before ≡ map (started G mon) (keep (is_entry_of G mon m) (span 0 (size G)))
unfolding leaving
leaving_before G mon m = refl

-- a return node lets nothing leave
pub leaving_return : (G : Graph) (mon : Monitor) (m : ℕ) (x : Place) → T (node G x.at).ret → leaving G mon m (here x) ≡ []
unfolding leaving
leaving_return G mon m x t = ap (each (recs G mon x)) (none G.edges)
  where
    none : (es : List Edge) → keep (λ (e : Edge). eqb e.from x.at && not (node G x.at).ret) es ≡ []
    none [] = refl
    none (e ∷ es) = ap₂ (λ (b : Bool) (ys : List Edge). put b e ys) (out_of (eqb e.from x.at) (node G x.at).ret t) (none es)
      where
        out_of : (a b : Bool) → T b → (a && not b) ≡ false
        out_of true true u = refl
        out_of false true u = refl
        out_of a false u = absurd u

pub trail_bytes_is : (G : Graph) (mon : Monitor) (m : ℕ) → trail_bytes G mon m ≡ each trail_rec_bytes (trail G mon m)
unfolding trail_bytes
trail_bytes_is G mon m = refl

-- six bytes a record
pub trail_bytes_length : (G : Graph) (mon : Monitor) (m : ℕ) → length (trail_bytes G mon m) ≡ record_len * length (trail G mon m)
unfolding trail_bytes
trail_bytes_length G mon m = length_each 6 trail_rec_bytes (λ r. refl) (trail G mon m)

-- the bytes hold the trail
pub trail_read : (G : Graph) (mon : Monitor) (m : ℕ) → read_trail (trail_bytes G mon m) ≡ trail G mon m
unfolding trail_bytes read_trail
trail_read G mon m = decode_each trail_record rec_of (started G mon 0) (λ r. refl) (trail G mon m)
