-- An accepted interface file holds exactly one record, of kind 5.
use Rattle.std.specs.Prelude.{◌≡◌, List, ℕ, ◌≤◌, ◌<◌}
use Rattle.std.proofs.Math.Path.{refl}
use Rattle.std.proofs.Common.{inl, inr, arith}
use Rattle.std.proofs.Math.Option.{none}
use Rattle.files.specs.Basics.Says.{says_eq, says_sure}
use Rattle.files.specs.Decode.AnyFile.{none_applies}
use Rattle.files.specs.Decode.{decode_interface}
use Rattle.files.specs.Record.{record_at, kind_at, count}
use Rattle.files.specs.Refusal.{interface, refusal}
use Rattle.files.specs.declared.record.Limits.{Limits}
use Rattle.files.specs.Basics.Tests.{below, at_most}

module _ (L : Limits) (l : List ℕ) (accepted : refusal L interface l ≡ none) where
  pub one_record : count l ≡ 1
  one_record =
      let a : 0 < count l = below 0 (count l) (λ x. none_applies L interface l accepted 6 0 (refl, omega arith)) in
      let b : count l ≤ 1 = at_most (count l) 1 (λ x. none_applies L interface l accepted 2 1 (x, inr (omega arith))) in omega arith

  pub is_interface : kind_at l 0 ≡ 5
  is_interface = says_sure (says_eq (kind_at l 0) 5) (λ e. none_applies L interface l accepted 2 0 (omega (arith, one_record), inl e))

  pub decoded_interface : decode_interface l ≡ record { provided = (record_at l 0).first; required = (record_at l 0).second }
  unfolding decode_interface
  decoded_interface = refl
