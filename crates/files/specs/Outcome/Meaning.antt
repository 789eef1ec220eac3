-- From a call's contract to what its returned value means. The contract says that the value's number and values are the outcome's: since each case of an answer
-- enum has its own number and values, which case is returned says what the outcome is, whether it is returned as itself or told in numbers.
use Rattle.std.specs.Prelude.{◌≡◌, refl, ◌↔◌, Bool, true, false, cond, List, [], ◌∷◌, ◌++◌, ℕ, ◌<◌, eqb, length, take, drop, replicate}
use Rattle.std.proofs.Common.{sym, ap, ap₂, subst, ◌∙◌, arith, take_at, drop_at, ne_eqb}
use Rattle.std.proofs.Math.Option.{Option, none, some}
use Rattle.files.specs.Outcome.{Said, Outcome, refuses, says, Answer, refused_answer, verdict_answer, answer, out_after, work_after, Check, unless, first_refusal, answered, refusal_at, Lines, FirstOf, NoneOf}
use Rattle.files.specs.Outcome.Laws.{refusal_leaves_output}
use Rattle.files.specs.declared.refusal.Refusal.{Refusal}

-- ---- what the answers of a call are about

-- a call's outcome: refused by the first of its published lines that applies, or else its verdict, which has a number of its own
pub record Decided (o : Outcome) (said : Said) (ls : Lines) : Type 0 where
  pub refused : (n f i : ℕ) → (o ≡ refuses (refusal_at n f i)) ↔ FirstOf ls n f i
  pub accepted : (o ≡ says said) ↔ NoneOf ls
  pub only : (s : Said) → o ≡ says s → s ≡ said
  pub numbered : 0 < said.verdict

-- "Input to which no published refusal applies is accepted"; all other input is "refused by the first number that applies in the published order, with all output
-- bytes untouched"
pub record Refuses {R : Type 0} (refused : Refusal → R) (ls : Lines) (out out' : List ℕ) (r : R) : Type 0 where
  pub refused_iff : (x : Refusal) → (r ≡ refused x) ↔ FirstOf ls x.number x.file x.«record»
  pub accepted_iff : ((x : Refusal) → r ≡ refused x → ⊥) ↔ NoneOf ls
  pub refused_leaves : (x : Refusal) → r ≡ refused x → out' ≡ out

-- "Work buffers are all zero after every call except refusal 13, which leaves them."
pub record Clears {R : Type 0} (refused : Refusal → R) (work work' : List ℕ) (r : R) : Type 0 where
  pub left : (x : Refusal) → r ≡ refused x → x.number ≡ 13 → work' ≡ work
  pub cleared : ((x : Refusal) → r ≡ refused x → x.number ≡ 13 → ⊥) → work' ≡ replicate (length work) 0

-- "after success, bytes past the result are unchanged": the first n bytes are ws, all others as before
pub record Wrote (n : ℕ) (ws out out' : List ℕ) : Type 0 where
  pub result : take n out' ≡ ws
  pub rest : drop n out' ≡ drop n out

-- ---- outcomes by their answers

pub only_verdict : (cs : List Check) (said s : Said) → answered cs said ≡ says s → s ≡ said
only_verdict cs said s e = go (first_refusal cs) e
  where
    go : (m : Option Refusal) → unless m said ≡ says s → s ≡ said
    go none q = let z : said ≡ s = cc in sym z
    go (some x) q = let z : ◌≡◌ {A = ℕ} 0 1 = cc in absurd (omega arith)

-- of two verdicts, each with a number of its own
pub numbered_cond : (b : Bool) (s t : Said) → 0 < s.verdict → 0 < t.verdict → 0 < (cond {A = Said} b s t).verdict
numbered_cond true s t h k = h
numbered_cond false s t h k = k

refusal_is : (x y : Refusal) → refused_answer x ≡ refused_answer y → x ≡ y
refusal_is x y e =
    let a : x.number ≡ y.number = ap (λ (z : Answer). z.number) e in
    let v : x.file ∷ x.«record» ∷ [] ≡ y.file ∷ y.«record» ∷ [] = ap (λ (z : Answer). z.values) e in
    let b : x.file ≡ y.file = cc in
    let c : x.«record» ≡ y.«record» = cc in
    λ i. record { number = a i; file = b i; «record» = c i }

refused_is : (o : Outcome) (x : Refusal) → ((s : Said) → o ≡ says s → 0 < s.verdict) → refused_answer x ≡ answer o → o ≡ refuses x
refused_is (refuses y) x f e = ap refuses (sym (refusal_is x y e))
refused_is (says s) x f e = absurd (omega (arith, f s refl, ap (λ (z : Answer). z.verdict) e))

said_is : (o : Outcome) (w : ℕ) (xs : List ℕ) → 0 < w → verdict_answer w xs ≡ answer o → (s : Said) × (o ≡ says s) × (s.verdict ≡ w) × (s.values ≡ xs)
said_is (refuses y) w xs h e = absurd (omega (arith, ap (λ (z : Answer). z.verdict) e))
said_is (says s) w xs h e = (s, refl, sym (ap (λ (z : Answer). z.verdict) e), sym (ap (λ (z : Answer). z.values) e))

-- ---- returned values

-- an answer enum: the paper's number and values for each case, by which the case can be told again
pub record Enum (E : Type 0) : Type 0 where
  pub code : E → Answer
  pub back : Answer → E
  pub back_code : (c : E) → back (code c) ≡ c
  pub refused : Refusal → E
  pub code_refused : (x : Refusal) → code (refused x) ≡ refused_answer x

-- a case is returned as `tell` has it, the enum itself or numbers at the C boundary, and can be heard from that
pub record Heard {E R : Type 0} (tell : E → R) : Type 0 where
  pub hear : R → E
  pub hears : (c : E) → hear (tell c) ≡ c

abbrev pub itself : {E : Type 0} → E → E
itself c = c

pub heard_itself : {E : Type 0} → Heard (itself {E = E})
heard_itself = record { hear = itself; hears = λ c. refl }

-- where the verdict has a case, each outcome has one
pub outcome_case : {E : Type 0} (enum : Enum E) (o : Outcome) (said : Said) (ls : Lines) → Decided o said ls → (q : E) → enum.code q ≡ answer (says said)
    → (c : E) × (enum.code c ≡ answer o)
outcome_case {E = E} enum o said ls d q e = go o refl
  where
    go : (z : Outcome) → o ≡ z → (c : E) × (enum.code c ≡ answer o)
    go (refuses x) p = (enum.refused x, enum.code_refused x ∙ sym (ap answer p))
    go (says s) p = (q, e ∙ ap (λ (t : Said). answer (says t)) (sym (d.only s p)) ∙ sym (ap answer p))

-- of two verdicts, each with a case
pub case_cond : {E : Type 0} (enum : Enum E) (b : Bool) (s t : Said) (p q : E) → enum.code p ≡ answer (says s) → enum.code q ≡ answer (says t)
    → (c : E) × (enum.code c ≡ answer (says (cond b s t)))
case_cond enum true s t p q e f = (p, e)
case_cond enum false s t p q e f = (q, f)

module _ {E R : Type 0} (enum : Enum E) (tell : E → R) (heard : Heard tell) (o : Outcome) (said : Said) (ls : Lines) (d : Decided o said ls)
    (c : E) (is_answer : enum.code c ≡ answer o) where
  -- no two cases answer the same, and none is told as another
  one_case : (q : E) → enum.code c ≡ enum.code q → tell c ≡ tell q
  one_case q e = ap tell (sym (enum.back_code c) ∙ ap enum.back e ∙ enum.back_code q)

  same_code : (q : E) → tell c ≡ tell q → enum.code q ≡ answer o
  same_code q e = ap enum.code (sym (heard.hears q) ∙ sym (ap heard.hear e) ∙ heard.hears c) ∙ is_answer

  numbered : (s : Said) → o ≡ says s → 0 < s.verdict
  numbered s e = subst (λ (z : Said). 0 < z.verdict) (sym (d.only s e)) d.numbered

  -- a refusal is returned where the outcome is that refusal
  refused_outcome : (x : Refusal) → tell c ≡ tell (enum.refused x) → o ≡ refuses x
  refused_outcome x p = refused_is o x numbered (sym (enum.code_refused x) ∙ same_code (enum.refused x) p)

  outcome_refused : (x : Refusal) → o ≡ refuses x → tell c ≡ tell (enum.refused x)
  outcome_refused x p = one_case (enum.refused x) (is_answer ∙ ap answer p ∙ sym (enum.code_refused x))

  -- a case that stands for a verdict is returned exactly where no line applies and the verdict is its own
  pub said_iff : (q : E) (w : ℕ) (xs : List ℕ) → 0 < w → enum.code q ≡ verdict_answer w xs
      → (tell c ≡ tell q) ↔ (NoneOf ls × (said.verdict ≡ w) × (said.values ≡ xs))
  said_iff q w xs h k = (
    λ p.
        let a = said_is o w xs h (sym k ∙ same_code q p) in
        let b = d.only a.0 a.1 in
        (d.accepted.0 (a.1 ∙ ap says b), ap (λ (z : Said). z.verdict) (sym b) ∙ a.2, ap (λ (z : Said). z.values) (sym b) ∙ a.3),
    λ n. one_case q (is_answer ∙ ap answer (d.accepted.1 n.0) ∙ ap₂ verdict_answer n.1 n.2 ∙ sym k),
  )

  -- what is not refused is accepted
  unrefused : ((x : Refusal) → tell c ≡ tell (enum.refused x) → ⊥) → NoneOf ls
  unrefused f = go o refl
    where
      go : (z : Outcome) → o ≡ z → NoneOf ls
      go (refuses x) p = absurd (f x (outcome_refused x p))
      go (says s) p = d.accepted.0 (p ∙ ap says (d.only s p))

  apart : (x : Refusal) → refuses x ≡ says said → ⊥
  apart x p = let z : ◌≡◌ {A = ℕ} 0 1 = cc in absurd (omega arith)

  pub refuses_by : (out out' : List ℕ) → out' ≡ out_after o out → Refuses (λ x. tell (enum.refused x)) ls out out' (tell c)
  refuses_by out out' e = record {
    refused_iff = λ x. (
      λ p. (d.refused x.number x.file x.«record»).0 (refused_outcome x p),
      λ f. outcome_refused x ((d.refused x.number x.file x.«record»).1 f),
    );
    accepted_iff = (unrefused, λ t x p. absurd (apart x (sym (refused_outcome x p) ∙ d.accepted.1 t)));
    refused_leaves = λ x p. e ∙ ap (λ (z : Outcome). out_after z out) (refused_outcome x p) ∙ refusal_leaves_output x out;
  }

  pub clears_by : (work work' : List ℕ) → work' ≡ work_after o work → Clears (λ x. tell (enum.refused x)) work work' (tell c)
  clears_by work work' w = record {
    left = λ x p t. w ∙ ap (λ (z : Outcome). work_after z work) (refused_outcome x p) ∙ ap (λ (n : ℕ). cond (eqb n 13) work (replicate (length work) 0)) t;
    cleared = λ f. w ∙ go o refl f;
  }
    where
      go : (z : Outcome) → o ≡ z → ((x : Refusal) → tell c ≡ tell (enum.refused x) → x.number ≡ 13 → ⊥) → work_after z work ≡ replicate (length work) 0
      go (refuses x) q f = ap (λ (b : Bool). cond b work (replicate (length work) 0)) (ne_eqb x.number 13 (f x (outcome_refused x q)))
      go (says s) q f = refl

-- what is written where no line applies
pub wrote_by : (o : Outcome) (said : Said) (ls : Lines) → Decided o said ls → (out out' : List ℕ) → out' ≡ out_after o out → NoneOf ls
    → (n : ℕ) → length said.written ≡ n → Wrote n said.written out out'
wrote_by o said ls d out out' w t n e =
    let x : out' ≡ said.written ++ drop (length said.written) out = w ∙ ap (λ (z : Outcome). out_after z out) (d.accepted.1 t) in
    record {
      result = ap (take n) x ∙ take_at said.written (drop (length said.written) out) n e;
      rest = ap (drop n) x ∙ drop_at said.written (drop (length said.written) out) n e ∙ ap (λ (m : ℕ). drop m out) e;
    }
