-- What the code of judging deliveries comes to: where the checks pass, the files are accepted and the buffers long enough; the standing graph in the store is an accepted file,
-- and the verdict on it is that on the standing graph.
use Rattle.std.specs.Prelude.{◌≡◌, refl, Bool, true, false, ◌||◌, List, ℕ, ◌+◌, ◌*◌, ◌≤◌, length, take}
use Rattle.std.proofs.Common.{subst, arith, ltb-false}
use Rattle.std.proofs.Math.Option.{none}
use Rattle.files.specs.Assemble.{standing_graph, Taken}
use Rattle.files.specs.Assemble.Stood.{StandsBy}
use Rattle.files.specs.Assemble.Work.{Counts, not_repeated}
use Rattle.files.specs.Cells.{put_at}
use Rattle.files.specs.Decode.{Filed, decode_property, decode_graph, graph_bytes}
use Rattle.files.specs.Deliveries.{decode_deliveries, repeated}
use Rattle.files.specs.Deliveries.Assembled.{assembled_filed}
use Rattle.files.specs.Deliveries.Decoded.{decoded_supplied}
use Rattle.files.specs.Deliveries.Latest.{Latest}
use Rattle.files.specs.Graph.{Graph}
use Rattle.files.specs.Outcome.{Answer, Answers, answered, short, Passed}
use Rattle.files.specs.Outcome.Counted.{over_limits, counted_small, verdict_told}
use Rattle.files.specs.Places.{graph_room, record_len}
use Rattle.files.specs.Record.{count}
use Rattle.files.specs.Refusal.{property, refusal}
use Rattle.files.specs.Settling.{Settles, told}
use Rattle.files.specs.Settling.Laws.{delivery_known, file_known, whole_known}
use Rattle.files.specs.View.Stored.{stored_graph}
use Rattle.files.specs.declared.record.Limits.{Limits}
use Rattle.files.specs.declared.view.GraphView.{GraphView}
use Rattle.judging.specs.Delivered.{deliveries_store, delivered_verdict, delivered_first, delivered_last, delivered}
use Rattle.judging.specs.Judge.{judge_said, Strides}
use Rattle.judging.specs.Places.{judge_room}

pub delivered_is : (L : Limits) (l p : List ℕ) (out store work : ℕ)
    → delivered L l p out store work ≡ answered (delivered_first L l p store work (delivered_last L l p out store work)) (delivered_verdict L l p out store work)
unfolding delivered
delivered_is L l p out store work = refl

-- ---- the checks before the standing graph

-- the file of deliveries and the property are accepted, and the buffers are as long as published
pub record Judgeable (L : Limits) (l p : List ℕ) (store work : ℕ) : Type 0 where
  pub taken : Taken L l
  pub property_within : refusal L property p ≡ none
  pub store_long : graph_room ≤ store
  pub work_long : judge_room ≤ work

both_off : (a b : Bool) → (a || b) ≡ false → (a ≡ false) × (b ≡ false)
both_off true b e = let z : ◌≡◌ {A = ℕ} 0 1 = cc in absurd (omega arith)
both_off false b e = (refl, e)

pub delivered_known : (L : Limits) (l p : List ℕ) (store work : ℕ) → Settles (delivered_first L l p store work) Passed → Judgeable L l p store work
delivered_known L l p store work s =
    let a = whole_known _ 13 (short deliveries_store store || short judge_room work) s in
    let b = delivery_known _ L 1 l a.1 in
    let c = file_known _ L 2 property p b.1 in
    let d = whole_known (λ cs. cs) 14 (repeated (decode_deliveries l)) c.1 in
    let rooms = both_off (short deliveries_store store) (short judge_room work) a.0 in
    record {
      taken = record { no_number = b.0; no_repeat = not_repeated l d.0 };
      property_within = c.0;
      store_long = ltb-false store deliveries_store rooms.0;
      work_long = ltb-false work judge_room rooms.1;
    }

-- ---- the standing graph in the store

pub standing_by : (L : Limits) (l kept : List ℕ) → Strides L → Taken L l → Latest l kept (count l) → StandsBy l kept
standing_by L l kept strides taken k = record { file = record { limits = L; nodes_fit = strides.nodes_fit; edges_fit = strides.edges_fit; taken = taken }; kept_are = k }

module _ (L : Limits) (l p : List ℕ) (taken : Taken L l) {v : GraphView} (x : Counts l v) (within : over_limits L v.nodes v.edges ≡ false) where
  pub standing_filed : Filed L (standing_graph l)
  standing_filed = assembled_filed L (decode_deliveries l) (λ d m. (decoded_supplied L l taken.no_number d m).body_filed) (counted_small L (standing_graph l) x.nodes_are x.edges_are within)

  -- the verdict on the bytes in the store is that on the standing graph
  module _ (store : List ℕ) {store' : List ℕ} (stored : store' ≡ put_at store 0 (graph_bytes (standing_graph l))) where
    pub delivered_told : (out : List ℕ) (n m : ℕ) {out' : List ℕ} {a : Answer}
        → Answers (told (judge_said (decode_graph (take (record_len * (v.nodes + v.edges)) store')) (decode_property p)) (length out)) out out' a
        → Answers (answered (delivered_last L l p (length out) n m) (delivered_verdict L l p (length out) n m)) out out' a
    delivered_told out n m {out' = out'} {a = a} y =
        verdict_told L (standing_graph l) x.nodes_are x.edges_are (judge_said (standing_graph l) (decode_property p)) out within
        (subst (λ (G : Graph). Answers (told (judge_said G (decode_property p)) (length out)) out out' a) (stored_graph (standing_graph l) x.nodes_are x.edges_are store stored) y)
