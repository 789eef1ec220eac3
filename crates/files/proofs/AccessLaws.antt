-- For the code that reads records or writes one: a record that was read, parsed as one kind; an interface from its two sets; six stores are one run.
use mathlib.Core.Path.{◌≡◌, sym, ap, ◌∙◌}
use mathlib.Core.List.{List, [], ◌∷◌}
use Prim.Native.Nat.{ℕ, suc, ◌+◌, ◌≤◌}
use native.Mathlib.Numerals.{add-one}
use native.Mathlib.Omega.{arith}
use lib.ListN.{length, set}
use lib.Seq.{sets-eq}
use Rattle.files.specs.Cells.{put_at}
use Rattle.files.specs.Cells.Laws.{put_at_is}
use Rattle.files.specs.Interface.{Interface}
use Rattle.files.specs.Record.{parsed, parsed_as}
use Rattle.files.specs.Record.Laws.{as_kind, as_other}
use Rattle.files.specs.declared.record.Record.{Record}
use Rattle.files.specs.declared.record.Parsed.{Parsed}
use Rattle.files.specs.declared.record.Parsed.TheVariants.{Other}

-- a record that was read, parsed as kind k where it has that kind and where it has not
module _ (k : ℕ) (r s : Record) (e : r ≡ s) where
  pub read_as : (x : Parsed) → r.kind ≡ k → x ≡ parsed r → x ≡ parsed_as k s
  read_as x h p = p ∙ sym (as_kind k r h) ∙ ap (parsed_as k) e

  pub read_other : (r.kind ≡ k → ⊥) → Other ≡ parsed_as k s
  read_other h = sym (as_other k r h) ∙ ap (parsed_as k) e

-- an interface is its two sets
pub of_sets : (a b : ℕ) (I : Interface) → a ≡ I.provided → b ≡ I.required → record { provided = a; required = b } ≡ I
of_sets a b I p q = λ t. record { provided = p t; required = q t }

-- two, four and six stores in a row are one run
pub put_two_is : (l : List ℕ) (p a b : ℕ) → p + 2 ≤ length l → set (set l p a) (p + 1) b ≡ put_at l p (a ∷ b ∷ [])
put_two_is l p a b h = rw add-one (sets-eq (a ∷ b ∷ []) l p h ∙ sym (put_at_is l p (a ∷ b ∷ [])))

pub put_four_is : (l : List ℕ) (p a b c d : ℕ) → p + 4 ≤ length l → set (set (set (set l p a) (p + 1) b) (p + 2) c) (p + 3) d ≡ put_at l p (a ∷ b ∷ c ∷ d ∷ [])
put_four_is l p a b c d h =
    let two : p + 2 ≡ suc (suc p) = omega arith in
    let three : p + 3 ≡ suc (suc (suc p)) = omega arith in
    rw (add-one, two, three) (sets-eq (a ∷ b ∷ c ∷ d ∷ []) l p h ∙ sym (put_at_is l p (a ∷ b ∷ c ∷ d ∷ [])))

pub put_six_is : (l : List ℕ) (p a b c d e f : ℕ) → p + 6 ≤ length l
    → set (set (set (set (set (set l p a) (p + 1) b) (p + 2) c) (p + 3) d) (p + 4) e) (p + 5) f ≡ put_at l p (a ∷ b ∷ c ∷ d ∷ e ∷ f ∷ [])
put_six_is l p a b c d e f h =
    let two : p + 2 ≡ suc (suc p) = omega arith in
    let three : p + 3 ≡ suc (suc (suc p)) = omega arith in
    let four : p + 4 ≡ suc (suc (suc (suc p))) = omega arith in
    let five : p + 5 ≡ suc (suc (suc (suc (suc p)))) = omega arith in
    rw (add-one, two, three, four, five) (sets-eq (a ∷ b ∷ c ∷ d ∷ e ∷ f ∷ []) l p h ∙ sym (put_at_is l p (a ∷ b ∷ c ∷ d ∷ e ∷ f ∷ [])))
