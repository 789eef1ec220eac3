-- A call is refused exactly where some line of its published order applies, by the first that does; otherwise it is accepted. One law for all calls.
use Rattle.std.specs.Prelude.{◌≡◌, refl, ◌⊎◌, ◌↔◌, Bool, true, false, List, [], ◌∷◌, ◌++◌, ℕ, zero, suc, ◌+◌, ◌≤◌, ◌<◌, length, drop}
use Rattle.std.proofs.Common.{sym, ap, subst, ◌∙◌, inl, inr, eq-or-lt_of_le, arith}
use Rattle.std.proofs.Math.Option.{Option, none, some}
use Rattle.std.proofs.Math.Decide.{dec_lt}
use Rattle.files.specs.Basics.First.{pick, Finds, whole_finds, Found}
use Rattle.files.specs.Basics.Says.{Says, says_lt, says_not, says_and, says_or, says_le}
use Rattle.files.specs.Outcome.{Said, Outcome, refuses, says, written_of, out_after, Check, check, numbered, file_checks, whole_check, or_next, first_refusal, unless, answered, Lines, no_lines, line, file_lines, numbered_lines, whole_line, FirstOf, NoneOf, Matches, refusal_at, out_check, out_line, Graph, no_start, TooLarge, too_large, size, NoStart}
use Rattle.files.specs.Refusal.{Kind, findings, refusal}
use Rattle.files.specs.Refusal.Laws.{accepted_iff, found, numbers, eight, refusal_is}
use Rattle.files.specs.Table.{Applies}
use Rattle.files.specs.declared.record.Limits.{Limits}
use Rattle.files.specs.declared.refusal.Refusal.{Refusal}
use Rattle.files.specs.Basics.Tests.{at_most}

-- ---- the lent bytes

-- "Output is unchanged after a refusal"
pub refusal_leaves_output : (r : Refusal) (out : List ℕ) → out_after (refuses r) out ≡ out
refusal_leaves_output r out = refl

drop_past : (l m : List ℕ) → drop (length l) (l ++ m) ≡ m
drop_past [] m = refl
drop_past (x ∷ l) m = drop_past l m

-- "after success, bytes past the result are unchanged"
pub past_result_unchanged : (o : Outcome) (out : List ℕ) → drop (length (written_of o)) (out_after o out) ≡ drop (length (written_of o)) out
past_result_unchanged o out = drop_past (written_of o) (drop (length (written_of o)) out)

-- ---- no line applies, line by line

pub none_end : NoneOf no_lines
unfolding NoneOf
none_end = tt

pub none_i : (n f : ℕ) (A : ℕ → Type 0) (ls : Lines) → ((j : ℕ) → A j → ⊥) → NoneOf ls → NoneOf (line n f A ls)
unfolding NoneOf
none_i n f A ls a b = (a, b)

pub none_e : (n f : ℕ) (A : ℕ → Type 0) (ls : Lines) → NoneOf (line n f A ls) → ((j : ℕ) → A j → ⊥) × NoneOf ls
unfolding NoneOf
none_e n f A ls a = a

-- of a number of no file: what it names is not so
pub whole_none : (n : ℕ) (P : Type 0) (ls : Lines) → NoneOf (whole_line n P ls) → (P → ⊥) × NoneOf ls
unfolding NoneOf
whole_none n P ls a = (λ x. a.0 0 (refl, x), a.1)

pub whole_none_i : (n : ℕ) (P : Type 0) (ls : Lines) → (P → ⊥) → NoneOf ls → NoneOf (whole_line n P ls)
unfolding NoneOf
whole_none_i n P ls f a = (λ j x. f x.1, a)

-- ---- checks and lines that match

-- the numbers from n on of any table, whose findings are such
pub numbered_match : (A : ℕ → ℕ → Type 0) (f n : ℕ) (ms : List (Option ℕ)) (cs : List Check) (ls : Lines) → Found A n ms → Matches cs ls
    → Matches (numbered n f ms cs) (numbered_lines A f n (length ms) ls)
unfolding Matches
numbered_match A f n [] cs ls a m = m
numbered_match A f n (o ∷ ms) cs ls a m = (refl, (refl, (a.0, numbered_match A f (suc n) ms cs ls a.1 m)))

pub files_match : (L : Limits) (f : ℕ) (k : Kind) (l : List ℕ) (cs : List Check) (ls : Lines) → Matches cs ls → Matches (file_checks L f k l cs) (file_lines L f k l ls)
files_match L f k l cs ls m =
    subst (λ (n : ℕ). Matches (file_checks L f k l cs) (numbered_lines (Applies L k l) f 1 n ls)) (eight L k l)
    (numbered_match (Applies L k l) f 1 (findings L k l) cs ls (found L k l) m)

pub match_end : Matches [] no_lines
unfolding Matches
match_end = tt

pub whole_match : (n : ℕ) (b : Bool) (P : Type 0) → Says b P → (cs : List Check) (ls : Lines) → Matches cs ls → Matches (whole_check n b cs) (whole_line n P ls)
unfolding Matches
whole_match n b P s cs ls m = (refl, (refl, (whole_finds b P s, m)))

pub out_match : (out : ℕ) (s : Said) → Matches (out_check out s) (out_line out s)
out_match out s = whole_match 12 _ _ (says_lt out (length s.written)) [] no_lines match_end

-- a number of file f, at the first record that the test finds
pub scan_match : (n f : ℕ) (m : Option ℕ) (A : ℕ → Type 0) → Finds m A → (cs : List Check) (ls : Lines) → Matches cs ls → Matches (check n f m ∷ cs) (line n f A ls)
unfolding Matches
scan_match n f m A x cs ls k = (refl, (refl, (x, k)))

-- ---- the theorem

-- what the first refusal says, by the lines
abbrev Told : Lines → Option Refusal → Type 0
Told ls none = NoneOf ls
Told ls (some r) = FirstOf ls r.number r.file r.«record»

told : (cs : List Check) (ls : Lines) → Matches cs ls → Told ls (first_refusal cs)
unfolding Matches NoneOf
told [] no_lines m = tt
told [] (line k g A ls) m = absurd m
told (c ∷ cs) no_lines m = absurd m
told (c ∷ cs) (line k g A ls) m = go c.found m.1.1.0 (first_refusal cs) (told cs ls m.1.1.1)
  where
    go : (o : Option ℕ) → Finds o A → (rest : Option Refusal) → Told ls rest → Told (line k g A ls) (or_next c.number c.file o rest)
    go (some i) f rest t = inl (sym m.0, (sym m.1.0, (f.0, f.1)))
    go none f none t = (f, t)
    go none f (some r) t = inr (f, t)

-- one line comes first
first_one : (ls : Lines) (n f i n' f' i' : ℕ) → FirstOf ls n f i → FirstOf ls n' f' i' → refusal_at n f i ≡ refusal_at n' f' i'
first_one no_lines n f i n' f' i' a b = absurd a
first_one (line k g A ls) n f i n' f' i' (inl a) (inl b) = same (sym a.0 ∙ b.0) (sym a.1.0 ∙ b.1.0) (go (dec_lt i i') (dec_lt i' i))
  where
    go : Dec (i < i') → Dec (i' < i) → i ≡ i'
    go (yes h) d = absurd (b.1.1.1 i h a.1.1.0)
    go (no h) (yes h') = absurd (a.1.1.1 i' h' b.1.1.0)
    go (no h) (no h') = omega arith

    same : n ≡ n' → f ≡ f' → i ≡ i' → refusal_at n f i ≡ refusal_at n' f' i'
    same p q r = λ t. refusal_at (p t) (q t) (r t)
first_one (line k g A ls) n f i n' f' i' (inl a) (inr b) = absurd (b.0 i a.1.1.0)
first_one (line k g A ls) n f i n' f' i' (inr a) (inl b) = absurd (a.0 i' b.1.1.0)
first_one (line k g A ls) n f i n' f' i' (inr a) (inr b) = first_one ls n f i n' f' i' a.1 b.1

none_first : (ls : Lines) (n f i : ℕ) → NoneOf ls → FirstOf ls n f i → ⊥
unfolding NoneOf
none_first no_lines n f i a b = b
none_first (line k g A ls) n f i a (inl b) = a.0 i b.1.1.0
none_first (line k g A ls) n f i a (inr b) = none_first ls n f i a.1 b.1

abbrev is_says : Outcome → Bool
is_says (refuses r) = false
is_says (says s) = true

refuses_not : (r : Refusal) (s : Said) → refuses r ≡ says s → ⊥
refuses_not r s e = let z : false ≡ true = ap is_says e in absurd (subst (λ (b : Bool). cases b) z tt)
  where
    cases : Bool → Type 0
    cases true = ⊥
    cases false = Unit {0}

abbrev refusal_of : Refusal → Outcome → Refusal
refusal_of d (refuses r) = r
refusal_of d (says s) = d

abbrev said_of : Said → Outcome → Said
said_of d (refuses r) = d
said_of d (says s) = s

module _ (cs : List Check) (ls : Lines) (match : Matches cs ls) (s : Said) where
  -- refused, with number, file and record, exactly where that line comes first
  pub refused_by : (n f i : ℕ) → (answered cs s ≡ refuses (refusal_at n f i)) ↔ FirstOf ls n f i
  refused_by n f i = (there (first_refusal cs) (told cs ls match), back (first_refusal cs) (told cs ls match))
    where
      there : (o : Option Refusal) → Told ls o → unless o s ≡ refuses (refusal_at n f i) → FirstOf ls n f i
      there none t e = absurd (refuses_not _ s (sym e))
      there (some r) t e = subst (λ (x : Refusal). FirstOf ls x.number x.file x.«record») (ap (refusal_of r) e) t

      back : (o : Option Refusal) → Told ls o → FirstOf ls n f i → unless o s ≡ refuses (refusal_at n f i)
      back none t a = absurd (none_first ls n f i t a)
      back (some r) t a = ap refuses (first_one ls r.number r.file r.«record» n f i t a)

  -- accepted, with the verdict, exactly where no line applies
  pub accepted_by : (answered cs s ≡ says s) ↔ NoneOf ls
  accepted_by = (there (first_refusal cs) (told cs ls match), back (first_refusal cs) (told cs ls match))
    where
      there : (o : Option Refusal) → Told ls o → unless o s ≡ says s → NoneOf ls
      there none t e = t
      there (some r) t e = absurd (refuses_not r s e)

      back : (o : Option Refusal) → Told ls o → NoneOf ls → unless o s ≡ says s
      back none t a = refl
      back (some r) t a = absurd (none_first ls _ _ _ a t)

  -- a verdict is the verdict, and then no line applies
  pub verdict_is : (v : Said) → answered cs s ≡ says v → (v ≡ s) × NoneOf ls
  verdict_is v e = go (first_refusal cs) (told cs ls match) e
    where
      go : (o : Option Refusal) → Told ls o → unless o s ≡ says v → (v ≡ s) × NoneOf ls
      go none t d = (ap (said_of s) (sym d), t)
      go (some r) t d = absurd (refuses_not r v d)

-- ---- files

-- where the lines of k numbers from n on do not apply, none of these numbers does
pub numbered_none_e : (A : ℕ → ℕ → Type 0) (f n k : ℕ) (ls : Lines) → NoneOf (numbered_lines A f n k ls) → ((m i : ℕ) → n ≤ m → m < n + k → A m i → ⊥) × NoneOf ls
unfolding NoneOf
numbered_none_e A f n zero ls a = (λ m i h l x. absurd (omega arith), a)
numbered_none_e A f n (suc k) ls a = let r = numbered_none_e A f (suc n) k ls a.1 in (λ m i h l x. go r m i (eq-or-lt_of_le h) l x, r.1)
  where
    go : ((m i : ℕ) → suc n ≤ m → m < suc n + k → A m i → ⊥) × NoneOf ls → (m i : ℕ) → (n ≡ m) ⊎ (n < m) → m < n + suc k → A m i → ⊥
    go r m i (inl e) l x = a.0 i (subst (λ (q : ℕ). A q i) (sym e) x)
    go r m i (inr h) l x = r.0 m i h (omega arith) x

pub numbered_none_i : (A : ℕ → ℕ → Type 0) (f n k : ℕ) (ls : Lines) → ((m i : ℕ) → A m i → ⊥) → NoneOf ls → NoneOf (numbered_lines A f n k ls)
unfolding NoneOf
numbered_none_i A f n zero ls a rest = rest
numbered_none_i A f n (suc k) ls a rest = (a n, numbered_none_i A f (suc n) k ls a rest)

-- where a file's lines do not apply the file is accepted
pub file_accepted : (L : Limits) (f : ℕ) (k : Kind) (l : List ℕ) (ls : Lines) → NoneOf (file_lines L f k l ls) → (refusal L k l ≡ none) × NoneOf ls
file_accepted L f k l ls a =
    let r = numbered_none_e (Applies L k l) f 1 8 ls a in
    ((accepted_iff L k l).1 (λ n i x. let b = numbers L k l n i x in r.0 n i b.0 (omega (arith, b.1)) x), r.1)

-- a number that comes first and is not that of a line stands in what follows, and the line does not apply
pub past_line : {A B : Type 0} → (A → ⊥) → A ⊎ B → B
past_line f (inl x) = absurd (f x)
past_line f (inr y) = y

-- so a file is accepted where a number past 8 comes first
pub past_file : (L : Limits) (h : ℕ) (k : Kind) (l : List ℕ) (ls : Lines) (n f i : ℕ) → 8 < n → FirstOf (file_lines L h k l ls) n f i → (refusal L k l ≡ none) × FirstOf ls n f i
unfolding NoneOf
past_file L h k l ls n f i m x =
    let a1 = past_line (λ y. omega (arith, m, y.0)) x in
    let a2 = past_line (λ y. omega (arith, m, y.0)) a1.1 in
    let a3 = past_line (λ y. omega (arith, m, y.0)) a2.1 in
    let a4 = past_line (λ y. omega (arith, m, y.0)) a3.1 in
    let a5 = past_line (λ y. omega (arith, m, y.0)) a4.1 in
    let a6 = past_line (λ y. omega (arith, m, y.0)) a5.1 in
    let a7 = past_line (λ y. omega (arith, m, y.0)) a6.1 in
    let a8 = past_line (λ y. omega (arith, m, y.0)) a7.1 in
    ((file_accepted L h k l no_lines (a1.0, (a2.0, (a3.0, (a4.0, (a5.0, (a6.0, (a7.0, (a8.0, tt))))))))).0, a8.1)

-- and where it is accepted its lines do not apply
pub file_none : (L : Limits) (f : ℕ) (k : Kind) (l : List ℕ) (ls : Lines) → refusal L k l ≡ none → NoneOf ls → NoneOf (file_lines L f k l ls)
file_none L f k l ls e rest = numbered_none_i (Applies L k l) f 1 8 ls ((accepted_iff L k l).0 e) rest

-- what a file's checks come to: its refusal, or what follows
abbrev pub file_or : ℕ → Option (ℕ × ℕ) → Option Refusal → Option Refusal
file_or f (some x) rest = some (refusal_at x.0 f x.1)
file_or f none rest = rest

pub numbered_pick : (n f : ℕ) (ms : List (Option ℕ)) (cs : List Check) → first_refusal (numbered n f ms cs) ≡ file_or f (pick n ms) (first_refusal cs)
numbered_pick n f [] cs = refl
numbered_pick n f (some i ∷ ms) cs = refl
numbered_pick n f (none ∷ ms) cs = numbered_pick (suc n) f ms cs

-- so they are the outcome, or the checks that follow are
pub numbered_answers : (n f : ℕ) (ms : List (Option ℕ)) (cs : List Check) (s : Said) (o : Option (ℕ × ℕ)) → pick n ms ≡ o
    → answered (numbered n f ms cs) s ≡ unless (file_or f o (first_refusal cs)) s
numbered_answers n f ms cs s o e = ap (λ (x : Option Refusal). unless x s) (numbered_pick n f ms cs ∙ ap (λ (y : Option (ℕ × ℕ)). file_or f y (first_refusal cs)) e)

pub file_first : (L : Limits) (f : ℕ) (k : Kind) (l : List ℕ) (cs : List Check) → first_refusal (file_checks L f k l cs) ≡ file_or f (refusal L k l) (first_refusal cs)
file_first L f k l cs = numbered_pick 1 f (findings L k l) cs ∙ ap (λ (o : Option (ℕ × ℕ)). file_or f o (first_refusal cs)) (sym (refusal_is L k l))

-- ---- numbers that several calls share

pub says_too_large : (L : Limits) (G : Graph) → Says (too_large L G) (TooLarge L G)
says_too_large L G = says_or (says_lt _ _) (says_lt _ _)

-- a graph that is not too large is within the limits
pub small_enough : (L : Limits) (G : Graph) → (TooLarge L G → ⊥) → (size G ≤ L.nodes) × (length G.edges ≤ L.edges)
small_enough L G f = (at_most _ _ (λ h. f (inl h)), at_most _ _ (λ h. f (inr h)))

pub says_no_start : (m : ℕ) → Says (no_start m) (NoStart m)
says_no_start m = says_not (says_and (says_le 1 m) (says_le m 8))
