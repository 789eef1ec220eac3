-- The theorems of specs/Summary/Trails/OneRun that rest on a definition which a must-fail edit turns: there they could not be read under the edit.
-- OneRun: The valid trails are the lists of records that have one run behind them, which passes their pairs of a node and a state in order.
use Rattle.std.specs.Prelude.{◌≡◌, refl, ◌↔◌, ℕ, ◌<◌, T}
use Rattle.std.proofs.Common.{sym, ap, subst, subst₂, ◌∙◌, arith, eqb→eq}
use mathlib.Core.List.{List, [], ◌∷◌, Memᴰ}
use Rattle.files.specs.Basics.Shortest.{To}
use Rattle.files.specs.Basics.Tests.{eq_eqb}
use Rattle.files.specs.Graph.{Graph, Edge, Flow, EntryOf}
use Rattle.files.specs.Rules.{Event, calls, Monitor}
use Rattle.runs.specs.Runs.{Config, meth, Runs, internal, call, return, start, cfg, Bad}
use Rattle.runs.specs.Summary.Trails.Behind.{TrailShows, Part, internal_step, call_step, whole_call, Chain, no_more, and_then, Valid, ends, goes, Stands, OneRun}
use Rattle.runs.specs.Summary.{Inside, Place, spots}
use Rattle.runs.proofs.Theorems.Summary.Balanced.{inside_above}
use Rattle.runs.specs.Summary.Moves.{Moves, by_step, by_call, passes_e, into_is}
use Rattle.runs.specs.Summary.Spots.{spots_sound}
use Rattle.runs.specs.Summary.Trails.{Rec, trail_rec_bytes, Where, before, here, end, is_bad, started, leaving, trail}
use Rattle.runs.specs.Summary.Trails.Laws.{Leaves, steps_on, goes_in, goes_by, leaves_e, start_e, trail_to, trail_fewest, trail_first}
use Rattle.runs.proofs.Theorems.Summary.Trails.Laws.{path_iff_bad}
use Rattle.runs.proofs.Theorems.Summary.Trails.AnyRun.{run_valid}
use Rattle.runs.specs.Summary.Trails.OneRun.{chain_run, path_valid, valid_path}

module _ (G : Graph) (mon : Monitor) (flow : Flow G) (labels_small : (e : Edge) → Memᴰ e G.edges → e.label < 9)
    (mon_small : (q : ℕ) (v : Event) → q < 8 → mon q v < 8) (m : ℕ) where
  -- a call passed over
  over_part : (c : Config) (e : Edge) (q : ℕ) (r : Rec) → Runs G c.at e → 0 < e.label → r.at ≡ c.at → r.state ≡ c.state → r.step ≡ 3 → r.label ≡ e.label → r.to ≡ e.to → r.now ≡ q
      → Moves G mon e c.state q → Part G mon r c (cfg e.to c.stack q)
  over_part c e q r y h a b i l o w (by_step z) = absurd (omega arith)
  over_part c e q r y h a b i l o w (by_call g s z j k) =
      let f = into_is G mon c.at c.state e y in
      let x = inside_above G mon e.label _ g s (subst (λ (p : ℕ). Inside G mon e.label p g s) (sym f) j) in
      whole_call e.to (cfg x.0 (e.to ∷ c.stack) (mon c.state (calls (meth G c.at) e.label))) (cfg g (e.to ∷ c.stack) s) i
      (record { at_is = sym a; state_is = sym b; to_is = sym o; now_is = sym w }) (call e x.0 y h x.1) refl
      (subst (λ (p : ℕ). EntryOf G p x.0) (sym l) x.1) (x.2 (e.to ∷ c.stack)) refl (return e.to c.stack k refl) refl

  leaves_part : (c : Config) (r : Rec) → Leaves G mon flow labels_small mon_small m (record { at = c.at; now = c.state }) r
      → (d : Config) × Part G mon r c d × (d.at ≡ r.to) × (d.state ≡ r.now)
  leaves_part c r (steps_on e y z) = (
    cfg e.to c.stack c.state,
    internal_step refl refl (record { at_is = refl; state_is = refl; to_is = refl; now_is = refl }) (internal e y z) refl,
    refl,
    refl,
  )
  leaves_part c r (goes_in e n y h d) =
      let f = into_is G mon c.at c.state e y in (
        cfg n (e.to ∷ c.stack) (mon c.state (calls (meth G c.at) e.label)),
        call_step e.to refl (record { at_is = refl; state_is = refl; to_is = refl; now_is = f }) (call e n y h d) refl d,
        refl,
        f,
      )
  leaves_part c r (goes_by e q y h l t) = (
    cfg e.to c.stack q,
    over_part c e q _ y h refl refl refl refl refl refl
        (passes_e G mon (spots G mon) (spots_sound G mon) e c.state q h t),
    refl,
    refl,
  )

  leaving_part : (w : Where) (r : Rec) → Memᴰ r (leaving G mon m w) → (c : Config) → Stands G mon m w c → (d : Config) × Part G mon r c d × Stands G mon m (end r) d
  leaving_part before r k c a = absurd a
  leaving_part (here x) r k c a =
      let b = leaves_part c r (subst₂ (λ (g q : ℕ). Leaves G mon flow labels_small mon_small m (record { at = g; now = q }) r) (sym a.0) (sym a.1)
      (leaves_e G mon flow labels_small mon_small m x r k)) in
      (b.0, b.1, (b.2, b.3))

  chain_of : (v w : Where) (rs : List Rec) → Valid G mon m v w rs → (c : Config) → Stands G mon m w c → (d : Config) × Chain G mon d c rs × Stands G mon m v d
  chain_of v w rs ends c a = (c, no_more, a)
  chain_of v w rs (goes w' r ss k p) c a =
      let b = leaving_part w' r k c a in
      let f = chain_of v (end r) ss p b.0 b.2 in
      (f.0, and_then c r b.0 ss b.1 f.1, f.2)

  one_from : (v : Where) (r : Rec) (rs : List Rec) → Memᴰ r (leaving G mon m before) → Valid G mon m v (end r) rs → OneRun G mon m v (r ∷ rs)
  one_from v r rs k p =
      let a = start_e G mon flow labels_small mon_small m r k in
      let b = chain_of v (end (started G mon a.0)) rs (subst (λ (s : Rec). Valid G mon m v (end s) rs) (sym a.2) p) (cfg a.0 [] 0) (refl, refl) in
      record {
        entry = a.0;
        is_entry = a.1;
        rest = rs;
        first = ap (λ (s : Rec). s ∷ rs) (sym a.2);
        last = b.0;
        chain = b.1;
        run = chain_run G mon m (cfg a.0 [] 0) rs b.0 (start a.0 a.1) b.1;
        stands = b.2;
      }

  -- a valid trail that has a record
  one_at : (v w : Where) (rs : List Rec) → Valid G mon m v w rs → w ≡ before → (x : Place) → v ≡ here x → OneRun G mon m v rs
  one_at v w rs ends e x f = absurd (apart (sym e ∙ f))
    where
      apart : before ≡ here x → ⊥
      apart p = let z : ◌≡◌ {A = ℕ} 0 1 = cc in omega arith
  one_at v w rs (goes w' r ss k p) e x f = one_from v r ss (subst (λ (u : Where). Memᴰ r (leaving G mon m u)) e k) p

  pub one_run : (x : Place) (rs : List Rec) → Valid G mon m (here x) before rs → OneRun G mon m (here x) rs
  one_run x rs p = one_at (here x) before rs p refl x refl

  -- and no other list of records has one run behind it
  pub one_run_iff : (x : Place) (rs : List Rec) → OneRun G mon m (here x) rs ↔ Valid G mon m (here x) before rs
  one_run_iff x rs = (run_valid G mon flow labels_small mon_small m x rs, one_run x rs)

  -- wherever some run is bad, the trail shows it
  pub trail_shows : Bad G mon m → TrailShows G mon m (trail G mon m)
  trail_shows b =
      let p = (path_iff_bad G mon flow labels_small mon_small m).1 b in
      let a = (path_valid G mon flow labels_small mon_small m) before (trail G mon m) (trail_to G mon flow labels_small mon_small m p.0 p.1) in
      at_place a.0 a.1 a.2
    where
      path : (y : Place) (ss : List Rec) → y.now ≡ 7 → OneRun G mon m (here y) ss → To (leaving G mon m) end trail_rec_bytes is_bad before ss
      path y ss e o = (valid_path G mon flow labels_small mon_small m) (here y) before ss (run_valid G mon flow labels_small mon_small m y ss o) (eq_eqb y.now 7 e)

      at_place : (v : Where) → Valid G mon m v before (trail G mon m) → T (is_bad v) → TrailShows G mon m (trail G mon m)
      at_place before k t = absurd t
      at_place (here x) k t = record {
        last = x;
        last_bad = eqb→eq x.now 7 t;
        valid = k;
        one_run = one_run x (trail G mon m) k;
        fewest = λ y ss e o. trail_fewest G mon flow labels_small mon_small m ss (path y ss e o);
        smallest = λ y ss e o q. trail_first G mon flow labels_small mon_small m ss (path y ss e o) q;
      }
