-- The theorems of specs/Summary/Trails/AnyRun that rest on a definition which a must-fail edit turns: there they could not be read under the edit.
-- AnyRun: Every list of records that has one run behind it is a valid trail: so the shortest and smallest of the valid ones are so among all of these.
use Rattle.std.specs.Prelude.{◌≡◌, ℕ, ◌<◌}
use Rattle.std.proofs.Common.{sym, ap, subst, ◌∙◌, lit<}
use mathlib.Core.List.{List, [], ◌∷◌, Memᴰ}
use Rattle.files.specs.Graph.{Graph, Edge, Flow}
use Rattle.files.specs.Rules.{Event, returns_to, Monitor}
use Rattle.runs.specs.Runs.{Config, cfg, meth}
use Rattle.runs.specs.Summary.{Inside, Place}
use Rattle.runs.proofs.Theorems.Summary.Balanced.{above_inside}
use Rattle.runs.specs.Summary.Moves.{into_is}
use Rattle.runs.specs.Summary.Trails.{Rec, Where, before, here, end, started, internal_rec, entered_rec, passed_rec}
use Rattle.runs.specs.Summary.Trails.Laws.{steps_on, goes_in, leaves_i, start_i}
use Rattle.runs.specs.Summary.Trails.Behind.{Part, internal_step, call_step, whole_call, Chain, no_more, and_then, Valid, ends, goes, OneRun}
use Rattle.runs.specs.Summary.Trails.Kinds.{step_internal, step_call}
use Rattle.runs.proofs.Theorems.Summary.Trails.Kinds.{step_return}
use Rattle.runs.specs.Summary.Trails.AnyRun.{Left, part_meets, passed_left, place, place_is, rec_is}

module _ (G : Graph) (mon : Monitor) (flow : Flow G) (labels_small : (e : Edge) → Memᴰ e G.edges → e.label < 9)
    (mon_small : (q : ℕ) (v : Event) → q < 8 → mon q v < 8) (m : ℕ) where
  -- what a record's part of a run shows: the record may leave there, and it ends where the part does, in a state of a monitor
  part_left : (r : Rec) (c d : Config) → c.state < 8 → Part G mon r c d → (Left G mon flow labels_small mon_small m) c r × (d.state < 8)
  part_left r c d h (internal_step i o j s k) =
      let a = step_internal G mon c d s k in
      let e = a.0 in
      let l = leaves_i G mon flow labels_small mon_small m ((place G mon flow labels_small mon_small m) c) (internal_rec G mon ((place G mon flow labels_small mon_small m) c) e c.state) (steps_on e a.1 a.2) in (
        subst ((Left G mon flow labels_small mon_small m) c) (sym (rec_is r (internal_rec G mon ((place G mon flow labels_small mon_small m) c) e c.state) (sym j.at_is) (sym j.state_is) i o (sym j.to_is ∙ a.3) (sym j.now_is ∙ a.4))) l,
        subst (λ (q : ℕ). q < 8) (sym a.4) h,
      )
  part_left r c d h (call_step t i j s k o) =
      let a = step_call G mon c d t s k in
      let e = a.0 in
      let f = into_is G mon c.at c.state e a.1 in
      let l = leaves_i G mon flow labels_small mon_small m ((place G mon flow labels_small mon_small m) c) (entered_rec G mon ((place G mon flow labels_small mon_small m) c) e d.at) (goes_in e d.at a.1 a.2 a.4) in (
        subst ((Left G mon flow labels_small mon_small m) c) (sym (rec_is r (entered_rec G mon ((place G mon flow labels_small mon_small m) c) e d.at) (sym j.at_is) (sym j.state_is) i (sym o.in_method ∙ a.4.in_method) (sym j.to_is) (sym j.now_is ∙ a.5 ∙ f))) l,
        subst (λ (q : ℕ). q < 8) (sym a.5) (mon_small c.state _ h),
      )
  part_left r c d h (whole_call t a b i j s k o v w u y) =
      let x = step_call G mon c a t s k in
      let e = x.0 in
      let z = step_return G mon b d t u (w ∙ ap (λ (ys : List ℕ). t ∷ ys) (sym y)) in
      let n = subst (λ (p : ℕ). Inside G mon e.label p b.at b.state) x.5 (above_inside G mon e.label (t ∷ c.stack) a b x.4 k w v) in
      let l = (passed_left G mon flow labels_small mon_small m) c e b.at b.state x.1 x.2 h n z.0 in
      let q : d.state ≡ mon b.state (returns_to (meth G b.at) (meth G e.to)) = z.2 ∙ ap (λ (i : ℕ). mon b.state (returns_to (meth G b.at) (meth G i))) (sym x.3) in (
        subst ((Left G mon flow labels_small mon_small m) c) (sym (rec_is r (passed_rec G mon ((place G mon flow labels_small mon_small m) c) e (mon b.state (returns_to (meth G b.at) (meth G e.to)))) (sym j.at_is) (sym j.state_is) i
            (sym o.in_method ∙ x.4.in_method) (sym j.to_is ∙ z.1 ∙ sym x.3) (sym j.now_is ∙ q))) l.1,
        subst (λ (q : ℕ). q < 8) (sym q) l.0,
      )

  chain_valid : (e c : Config) (rs : List Rec) → c.state < 8 → Chain G mon e c rs → Valid G mon m (here ((place G mon flow labels_small mon_small m) e)) (here ((place G mon flow labels_small mon_small m) c)) rs
  chain_valid e c rs h no_more = ends
  chain_valid e c rs h (and_then c' r d ss p q) =
      let a = part_left r c d h p in
      let j = (part_meets G mon flow labels_small mon_small m) r c d p in
      goes (here ((place G mon flow labels_small mon_small m) c)) r ss a.0 (subst (λ (w : Where). Valid G mon m (here ((place G mon flow labels_small mon_small m) e)) w ss)
      (ap here (place_is ((place G mon flow labels_small mon_small m) d) (record { at = r.to; now = r.now }) j.to_is j.now_is)) (chain_valid e d ss a.1 q))

  -- A list of records with one run behind it is a valid trail.
  pub run_valid : (x : Place) (rs : List Rec) → OneRun G mon m (here x) rs → Valid G mon m (here x) before rs
  run_valid x rs o =
      let a = chain_valid o.last (cfg o.entry [] 0) o.rest (lit< tt) o.chain in
      let b = subst (λ (y : Place). Valid G mon m (here y) (end (started G mon o.entry)) o.rest) (place_is ((place G mon flow labels_small mon_small m) o.last) x o.stands.0 o.stands.1) a in
      subst (Valid G mon m (here x) before) (sym o.first) (goes before (started G mon o.entry) o.rest (start_i G mon flow labels_small mon_small m o.entry o.is_entry) b)
