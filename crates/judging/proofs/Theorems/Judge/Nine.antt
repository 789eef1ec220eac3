-- The theorems of specs/Judge/Nine that rest on a definition which a must-fail edit turns: there they could not be read under the edit.
-- Nine: "nine boxes and one operator 10 must get equal verdicts on every graph", on the bytes of the files.
use Rattle.std.specs.Prelude.{◌≡◌, ◌↔◌, Bool, cond, List, ℕ, Result, Ok, Err}
use Rattle.std.proofs.Common.{sym, ap, subst, ◌∙◌, arith}
use Rattle.std.proofs.Math.Option.{none}
use Rattle.files.specs.Decode.{decode_graph, decode_property}
use Rattle.files.specs.Decode.Graphs.{decoded_flow, decoded_filed}
use Rattle.files.specs.Decode.Properties.{decoded_property}
use Rattle.files.specs.Outcome.{Said, says}
use Rattle.files.specs.Outcome.Laws.{file_accepted, whole_none}
use Rattle.files.specs.Refusal.{graph, property, refusal}
use Rattle.files.specs.declared.record.Limits.{Limits}
use Rattle.files.specs.declared.refusal.Refusal.{Refusal}
use Rattle.judging.specs.declared.answers.Judged.{Judged}
use Rattle.judging.specs.declared.answers.Judged.TheVariants.{Holds}
use Rattle.judging.specs.Judge.{judge_said, judged}
use Rattle.judging.specs.Judge.Laws.{judge_files}
use Rattle.judging.specs.Judge.Meaning.{JudgeMeans}
use Rattle.judging.specs.Levels.{satisfies}
use Rattle.judging.specs.Levels.Nine.{SpellsOut, all_nine}
use Rattle.judging.specs.Levels.Nine.Laws.{all_nine_spells}
use Rattle.judging.proofs.Theorems.Levels.Nine.Laws.{spelled_verdict}
use Rattle.judging.proofs.Theorems.Levels.Nine.Spelled.{spelled_satisfies}
use Rattle.judging.specs.Judge.Nine.{said_verdict}

-- Two property files, the second with operators 10 of the first written as boxes, whatever else differs in limits and buffers: where both get a verdict on a graph file
-- it is the same. (The sheets differ: boxes joined by "and"s have other rows and ranks.)
pub nine_judged : (L M : Limits) (g p q : List ℕ) (out work out' work' : ℕ) (s t : Said) → SpellsOut (decode_property p) (decode_property q)
    → judged L g p out work ≡ says s → judged M g q out' work' ≡ says t → s.verdict ≡ t.verdict
nine_judged L M g p q out work out' work' s t spells d e =
    ap (λ (x : Said). x.verdict) a.0
    ∙ said_verdict (decode_graph g) (decode_property p)
    ∙ ap (λ (c : Bool). cond c 1 2) same
    ∙ sym (said_verdict (decode_graph g) (decode_property q))
    ∙ sym (ap (λ (x : Said). x.verdict) (judge_files M g q out' work' t e).0)
  where
    a : (s ≡ judge_said (decode_graph g) (decode_property p)) × (refusal L graph g ≡ none) × (refusal L property p ≡ none)
    a = judge_files L g p out work s d

    same : satisfies (decode_graph g) (decode_property p) ≡ satisfies (decode_graph g) (decode_property q)
    same =
        spelled_verdict (decode_property p) (decode_property q) (decoded_property L p a.2).rows_named spells (decode_graph g) (decoded_flow L g a.1)
        (λ x m. let h = (decoded_filed L g a.1).labels x m in omega arith)

-- in particular with every operator 10 written as nine boxes
pub all_nine_judged : (L M : Limits) (g p q : List ℕ) (out work out' work' : ℕ) (s t : Said) → decode_property q ≡ all_nine (decode_property p)
    → judged L g p out work ≡ says s → judged M g q out' work' ≡ says t → s.verdict ≡ t.verdict
all_nine_judged L M g p q out work out' work' s t e =
    nine_judged L M g p q out work out' work' s t (subst (SpellsOut (decode_property p)) (sym e) (all_nine_spells (decode_property p)))

-- The same of what the two calls return, at the C boundary too: neither refused, "holds" of the one exactly where "holds" of the other.
pub nine_holds : {R : Type 0} (tell : Result Judged Refusal → R) (L M : Limits) (g p q out work out' work' : List ℕ) (r : R) (out₂ work₂ out₂' work₂' : List ℕ) (r₂ : R)
    → SpellsOut (decode_property p) (decode_property q) → JudgeMeans tell L g p out work out' work' r → JudgeMeans tell M g q out₂ work₂ out₂' work₂' r₂
    → ((x : Refusal) → r ≡ tell (Err x) → ⊥) → ((x : Refusal) → r₂ ≡ tell (Err x) → ⊥) → (r ≡ tell (Ok Holds)) ↔ (r₂ ≡ tell (Ok Holds))
nine_holds tell L M g p q out work out' work' r out₂ work₂ out₂' work₂' r₂ spells a b f h =
    let t = a.verdict.refuses.accepted_iff.0 f in
    let u = b.verdict.refuses.accepted_iff.0 h in
    let j = a.verdict.judges t in
    let k = file_accepted L 1 graph g _ (whole_none 13 _ _ t).1 in
    let same =
    spelled_satisfies (decode_property p) (decode_property q) j.is_property spells (decode_graph g) j.is_flow
    (λ x m. let h = (decoded_filed L g k.0).labels x m in omega arith)
    in
    (λ e. b.verdict.holds_iff.1 (u, same.0 (a.verdict.holds_iff.0 e).1), λ e. a.verdict.holds_iff.1 (t, same.1 (b.verdict.holds_iff.0 e).1))
