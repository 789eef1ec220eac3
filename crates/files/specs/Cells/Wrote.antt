-- Records written one after another, as loops write them: the bytes so far stand from one record on up to another, and all else is as it was.
use Rattle.std.specs.Prelude.{◌≡◌, refl, List, [], ◌++◌, ℕ, ◌+◌, ◌*◌, ◌≤◌, length, take, drop}
use Rattle.std.proofs.Common.{sym, ap, ap₂, ◌∙◌, append-nil, add-zero, arith, length-append, take-append-drop}
use Rattle.files.specs.Cells.{put_at}
use Rattle.files.specs.Cells.Laws.{put_at_is, put_after}
use Rattle.files.specs.Places.{record_len}

-- the bytes xs stand in `out` from record `at` on up to record `end`, and all else is as it was
pub record Wrote (out₀ out : List ℕ) (at end : ℕ) (xs : List ℕ) : Type 0 where
  pub as_long : length out ≡ length out₀
  pub bytes : out ≡ put_at out₀ (record_len * at) xs
  pub up_to : record_len * end ≡ record_len * at + length xs

pub wrote_none : (out : List ℕ) (at : ℕ) → Wrote out out at at []
wrote_none out at = record {
  as_long = refl;
  bytes = sym (put_at_is out p [] ∙ ap (λ (k : ℕ). take p out ++ [] ++ drop k out) (add-zero p) ∙ ap (λ (r : List ℕ). r ++ drop p out) (append-nil (take p out)) ∙ take-append-drop p out);
  up_to = omega arith;
}
  where
    p : ℕ
    p = record_len * at

pub wrote_more : (out₀ out out' : List ℕ) (at end end' : ℕ) (xs ys zs : List ℕ) → record_len * at ≤ length out₀ → zs ≡ xs ++ ys → Wrote out₀ out at end xs
    → out' ≡ put_at out (record_len * end) ys → length out' ≡ length out → record_len * end' ≡ record_len * end + length ys → Wrote out₀ out' at end' zs
wrote_more out₀ out out' at end end' xs ys zs h e x a b d = record {
  as_long = b ∙ x.as_long;
  bytes = a ∙ ap₂ (λ (m : List ℕ) (k : ℕ). put_at m k ys) x.bytes x.up_to ∙ put_after out₀ (record_len * at) xs ys h ∙ ap (put_at out₀ (record_len * at)) (sym e);
  up_to = omega (arith, d, x.up_to, ap length e, length-append xs ys);
}
