-- The theorems of specs/Watching/Laws that rest on a definition which a must-fail edit turns: there they could not be read under the edit.
-- Laws: Watching is refused by the first line of its published order that applies, and otherwise says what `Watches` says.
use Rattle.std.specs.Prelude.{◌≡◌, Bool, not, ℕ, ◌<◌}
use Rattle.std.proofs.Math.Path.{refl, ap}
use Rattle.std.proofs.Common.{sym, subst, arith}
use Rattle.std.proofs.Math.Bool.{true, false, cond}
use mathlib.Core.List.{List, [], ◌∷◌, Memᴰ}
use Rattle.std.proofs.Math.Dec.{T}
use Rattle.std.proofs.Math.ListN.{length}
use Rattle.files.specs.Decode.{decode_graph, decode_rules}
use Rattle.files.specs.Decode.Graphs.{decoded_filed}
use Rattle.files.specs.Decode.RuleFiles.{decoded_rules}
use Rattle.files.specs.Graph.{Graph, Edge, Flow}
use Rattle.files.specs.Outcome.{Said, says}
use Rattle.files.specs.Outcome.Laws.{verdict_is, file_accepted, whole_none}
use Rattle.files.specs.Refusal.{graph, rules, interface}
use Rattle.files.specs.Rules.{Event, Monitor, watch}
use Rattle.files.specs.declared.record.Limits.{Limits}
use Rattle.runs.specs.Runs.{Bad, Clean}
use Rattle.runs.specs.Summary.{clean}
use Rattle.runs.proofs.Theorems.Summary.Places.{not_clean_bad, clean_no_bad}
use Rattle.runs.specs.Summary.Trails.{trail, trail_bytes}
use Rattle.runs.proofs.Theorems.Summary.Trails.OneRun.{trail_shows}
use Rattle.runs.specs.Watching.{watch_said, watched, Watches}
use Rattle.runs.specs.Watching.Laws.{filed_labels, filed_monitor, said, watch_match}

module _ (G : Graph) (mon : Monitor) (m : ℕ) (flow : Flow G) (labels_small : (e : Edge) → Memᴰ e G.edges → e.label < 9)
    (mon_small : (q : ℕ) (v : Event) → q < 8 → mon q v < 8) where
  pub watch_cases : (s : Said) → s ≡ watch_said G mon m → Watches G mon m s
  unfolding watch_said
  watch_cases s e = go (clean G mon m) refl e
    where
      go : (b : Bool) → clean G mon m ≡ b
          → s ≡ cond b (record { verdict = 1; values = []; written = [] }) (record { verdict = 2; values = length (trail G mon m) ∷ []; written = trail_bytes G mon m })
          → Watches G mon m s
      go true c q =
          let v : s.verdict ≡ 1 = ap (λ (x : Said). x.verdict) q in
          let f : Clean G mon m = clean_no_bad G mon flow labels_small mon_small m (subst T (sym c) tt) in
          record {
            clean_iff = (λ x. f, λ x. v);
            bad_iff = (λ x. absurd (omega arith), λ b. absurd (f b));
            clean_writes = λ x. (ap (λ (x : Said). x.values) q, ap (λ (x : Said). x.written) q);
            bad_writes = λ x. absurd (omega arith);
            bad_shows = λ x. absurd (omega arith);
          }
      go false c q =
          let v : s.verdict ≡ 2 = ap (λ (x : Said). x.verdict) q in
          let b : Bad G mon m = not_clean_bad G mon m (subst (λ (b : Bool). T (not b)) (sym c) tt) in
          record {
            clean_iff = (λ x. absurd (omega arith), λ f. absurd (f b));
            bad_iff = (λ x. b, λ x. v);
            clean_writes = λ x. absurd (omega arith);
            bad_writes = λ x. (ap (λ (x : Said). x.values) q, ap (λ (x : Said). x.written) q);
            bad_shows = λ x. trail_shows G mon flow labels_small mon_small m b;
          }

module _ (L : Limits) (i g r : List ℕ) (m out work : ℕ) where
  -- Whatever the bytes, the start method and the lengths: what watching says where it is not refused.
  pub watch_says : (s : Said) → watched L i g r m out work ≡ says s → Watches (decode_graph g) (watch (decode_rules r)) m s
  unfolding watched
  watch_says s e =
      let a = verdict_is _ _ (watch_match L i g r m out work) (said L i g r m out work) s e in
      let b1 = file_accepted L 1 interface i _ (whole_none 13 _ _ a.1).1 in
      let b2 = file_accepted L 2 graph g _ b1.1 in
      let b3 = file_accepted L 3 rules r _ b2.1 in
      let f = decoded_filed L g b2.0 in
      watch_cases (decode_graph g) (watch (decode_rules r)) m f.flow (filed_labels L (decode_graph g) f) (filed_monitor (decode_rules r) (decoded_rules L r b3.0)) s a.0
