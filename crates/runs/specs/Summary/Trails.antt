-- The trail: "A trail record is node, state, step, label, node reached, state reached. Steps: 0 start .., 1 internal, 2 call entered, 3 call passed over."
-- "The trail has fewest records, ties to the smallest bytes; its last state is 7."
use Rattle.std.specs.Prelude.{Bool, false, not, ◌&&◌, List, [], ◌∷◌, ◌++◌, map, ℕ, suc, eqb, ltb, length}
use Rattle.files.specs.Basics.Lists.{keep, each, span}
use Rattle.files.specs.Basics.Shortest.{best}
use Rattle.files.specs.Basics.Tables.{table}
use Rattle.files.specs.Basics.Tests.{any}
use Rattle.files.specs.Graph.{Graph, Edge, size, node}
use Rattle.files.specs.Record.{record_at, count}
use Rattle.files.specs.Rules.{calls, Monitor}
use Rattle.files.specs.declared.record.Record.{Record}
use Rattle.runs.specs.Runs.{meth}
use Rattle.runs.specs.Summary.{Place, is_entry_of, callee, spots, all_places}
pub mod Laws
pub mod Behind
pub mod Kinds
pub mod AnyRun
pub mod OneRun
pub mod Examples

-- a trail record: node, state, step, label, node reached, state reached
pub record Rec : Type 0 where
  pub at : ℕ
  pub state : ℕ
  pub step : ℕ
  pub label : ℕ
  pub to : ℕ
  pub now : ℕ

-- its bytes, by which trails are compared
abbrev pub trail_rec_bytes : Rec → List ℕ
trail_rec_bytes r = r.at ∷ r.state ∷ r.step ∷ r.label ∷ r.to ∷ r.now ∷ []

-- the six bytes as a record: its first is called kind, whatever they say
abbrev pub trail_record : Rec → Record
trail_record r = record { kind = r.at; first = r.state; second = r.step; third = r.label; fourth = r.to; fifth = r.now }

abbrev pub rec_of : Record → Rec
rec_of r = record { at = r.kind; state = r.first; step = r.second; label = r.third; to = r.fourth; now = r.fifth }

-- the trail that bytes hold
pub read_trail : List ℕ → List Rec
read_trail l = table (λ i. rec_of (record_at l i)) 0 (count l)

-- before the first record, or at a place
pub data Where : Type 0 where
  before : Where
  here : Place → Where

abbrev pub end : Rec → Where
end r = here (record { at = r.to; now = r.now })

abbrev pub is_bad : Where → Bool
is_bad before = false
is_bad (here x) = eqb x.now 7

module _ (G : Graph) (mon : Monitor) where
  abbrev pub started : ℕ → Rec
  started n = record { at = n; state = 0; step = 0; label = 0; to = n; now = 0 }

  abbrev pub internal_rec : Place → Edge → ℕ → Rec
  internal_rec x e q = record { at = x.at; state = x.now; step = 1; label = 0; to = e.to; now = q }

  abbrev pub entered_rec : Place → Edge → ℕ → Rec
  entered_rec x e n = record { at = x.at; state = x.now; step = 2; label = e.label; to = n; now = mon x.now (calls (meth G e.from) e.label) }

  abbrev pub passed_rec : Place → Edge → ℕ → Rec
  passed_rec x e q = record { at = x.at; state = x.now; step = 3; label = e.label; to = e.to; now = q }

  -- the records that the edge e allows at x: an internal step, a call entered at each entry, a call passed over to each state that it can end in
  pub recs : Place → Edge → List Rec
  recs x e =
      map (internal_rec x e) (keep (λ q. eqb e.label 0) (x.now ∷ []))
      ++ (map (entered_rec x e) (keep (λ n. ltb 0 e.label && is_entry_of G mon e.label n) (span 0 (size G)))
      ++ map (passed_rec x e) (keep (λ q. ltb 0 e.label && any (callee G mon e x.now q) (spots G mon)) (span 0 8)))

  pub leaving : ℕ → Where → List Rec
  leaving m before = map started (keep (is_entry_of G mon m) (span 0 (size G)))
  leaving m (here x) = each (recs x) (keep (λ (e : Edge). eqb e.from x.at && not (node G x.at).ret) G.edges)

  -- where the verdict is not clean; no shortest path passes a place twice
  pub trail : ℕ → List Rec
  trail m = best (leaving m) end trail_rec_bytes is_bad (suc (length (all_places G mon))) before

  pub trail_bytes : ℕ → List ℕ
  trail_bytes m = each trail_rec_bytes (trail m)
