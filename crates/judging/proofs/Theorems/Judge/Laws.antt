-- The theorems of specs/Judge/Laws that rest on a definition which a must-fail edit turns: there they could not be read under the edit.
-- Laws: Judging is refused by the first line of its published order that applies, and otherwise says what `Judges` says.
use Rattle.std.specs.Prelude.{◌≡◌, ◌↔◌, Bool, true, false, cond, not, List, [], ◌∷◌, ℕ, T, length}
use Rattle.std.proofs.Common.{ap, subst, sym, arith}
use Rattle.std.proofs.Math.Path.{refl}
use Rattle.files.specs.Decode.{decode_graph, decode_property}
use Rattle.files.specs.Decode.Graphs.{decoded_flow}
use Rattle.files.specs.Decode.Properties.{decoded_property}
use Rattle.files.specs.Graph.{Graph, Flow}
use Rattle.files.specs.Outcome.{Said, says}
use Rattle.files.specs.Property.{Row, Property}
use Rattle.files.specs.declared.record.Limits.{Limits}
use Rattle.judging.specs.Judge.{judge_said, judged, Judges}
use Rattle.judging.specs.Levels.{Satisfies, satisfies}
use Rattle.judging.proofs.Theorems.Levels.Laws.{satisfies_agrees}
use Rattle.judging.proofs.Theorems.Levels.Greatest.{greatest_solution, holds_solves}
use Rattle.judging.specs.Levels.Sheet.{sheet, sheet_bytes}
use Rattle.judging.proofs.Theorems.Levels.Sheet.Laws.{sheet_shows}
use Rattle.judging.specs.Judge.Laws.{judge_files}

-- ---- what the verdict says

judge_cases : (G : Graph) (P : List Row) (s : Said) → Flow G → Property P → s ≡ judge_said G P → Judges G P s
unfolding judge_said
judge_cases G P s flow wf e = go (satisfies G P) refl (satisfies_agrees G P flow wf) e
  where
    go : (b : Bool) → satisfies G P ≡ b → T b ↔ Satisfies G P
        → s ≡ cond b (record { verdict = 1; values = []; written = [] }) (record { verdict = 2; values = length (sheet G P) ∷ []; written = sheet_bytes G P })
        → Judges G P s
    go true c i q =
        let v : s.verdict ≡ 1 = ap (λ (x : Said). x.verdict) q in
        record {
          is_flow = flow;
          is_property = wf;
          solves = holds_solves G P flow wf;
          greatest = greatest_solution G P flow wf;
          holds_iff = (λ x. i.0 tt, λ x. v);
          fails_iff = (λ x. absurd (omega arith), λ f. absurd (f (i.0 tt)));
          holds_writes = λ x. (ap (λ (x : Said). x.values) q, ap (λ (x : Said). x.written) q);
          fails_writes = λ x. absurd (omega arith);
          fails_shows = λ x. absurd (omega arith);
        }
    go false c i q =
        let v : s.verdict ≡ 2 = ap (λ (x : Said). x.verdict) q in
        record {
          is_flow = flow;
          is_property = wf;
          solves = holds_solves G P flow wf;
          greatest = greatest_solution G P flow wf;
          holds_iff = (λ x. absurd (omega arith), λ f. absurd (i.1 f));
          fails_iff = (λ x f. i.1 f, λ f. v);
          holds_writes = λ x. absurd (omega arith);
          fails_writes = λ x. (ap (λ (x : Said). x.values) q, ap (λ (x : Said). x.written) q);
          fails_shows = λ x. sheet_shows G P flow wf (subst (λ (b : Bool). T (not b)) (sym c) tt);
        }

-- whatever the bytes and lengths, a verdict of judging says what `Judges` says
pub judge_says : (L : Limits) (g p : List ℕ) (out work : ℕ) (s : Said) → judged L g p out work ≡ says s → Judges (decode_graph g) (decode_property p) s
judge_says L g p out work s e =
    let a = judge_files L g p out work s e in
    judge_cases (decode_graph g) (decode_property p) s (decoded_flow L g a.1) (decoded_property L p a.2).rows_named a.0
