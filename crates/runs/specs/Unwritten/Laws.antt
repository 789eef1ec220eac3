-- The verdict of two unwritten sides is refused by the first line of its published order that applies; where it is not, it is that of watching the two models joined.
-- Its theorems that rest on a definition which a must-fail edit turns stand in proofs/Theorems/Unwritten/Laws.
use Rattle.std.specs.Prelude.{◌≡◌, ◌↔◌, true, List, [], ◌∷◌, ℕ}
use Rattle.std.proofs.Math.Path.{refl}
use Rattle.files.specs.Basics.Says.{says_lt, says_or}
use Rattle.files.specs.Decode.{decode_interface}
use Rattle.files.specs.Outcome.{Said, refuses, says, refusal_at, NoneOf, FirstOf, Matches, published, answered}
use Rattle.files.specs.Outcome.Calls as calls
use Rattle.files.specs.Outcome.Laws.{whole_match, files_match, out_match, refused_by, accepted_by, says_no_start, says_too_large}
use Rattle.files.specs.Refusal.{property, rules, interface}
use Rattle.files.specs.Sides.Laws.{says_shares, says_unprovided}
use Rattle.files.specs.declared.record.Limits.{Limits}
use Rattle.runs.specs.Composing.{gives}
use Rattle.runs.specs.Unwritten.{both_store, both_work, first_side, second_side, both_graph, both_sides, both_said, both_first, both_last, both_checks, both_lines, composed_both}

module _ (L : Limits) (i₁ p₁ i₂ p₂ r : List ℕ) (m out store work : ℕ) where
  abbrev pub said : Said
  said = both_said i₁ p₁ i₂ p₂ r m

  pub both_match : Matches (both_checks L i₁ p₁ i₂ p₂ r m out store work) (both_lines L i₁ p₁ i₂ p₂ r m out store work)
  both_match =
      whole_match 13 _ _ (says_or (says_lt store both_store) (says_lt work both_work)) _ _
      (files_match L 1 interface i₁ _ _ (files_match L 2 property p₁ _ _ (files_match L 3 interface i₂ _ _ (files_match L 4 property p₂ _ _ (files_match L 5 rules r _ _
      (whole_match 3 _ _ (says_no_start m) _ _
      (whole_match 9 _ _ (says_shares (decode_interface i₁) (decode_interface i₂)) _ _
      (whole_match 10 _ _ (says_unprovided (both_sides i₁ i₂) m) _ _
      (whole_match 11 _ _ (says_or (says_too_large L (gives (first_side i₁ p₁))) (says_or (says_too_large L (gives (second_side i₂ p₂))) (says_too_large L (both_graph i₁ p₁ i₂ p₂)))) _ _
      (out_match out said))))))))))

  pub composed_both_is : composed_both L i₁ p₁ i₂ p₂ r m out store work ≡ answered (both_first L i₁ p₁ i₂ p₂ r m store work (both_last L i₁ p₁ i₂ p₂ r m out)) said
  unfolding composed_both
  composed_both_is = refl

  -- the lines stand in the published order
  pub both_order : published (both_lines L i₁ p₁ i₂ p₂ r m out store work) ≡ true
  both_order = refl

  -- and are the call's row of the table
  pub both_row : calls.Row L calls.compose_both (i₁ ∷ p₁ ∷ i₂ ∷ p₂ ∷ r ∷ []) (both_lines L i₁ p₁ i₂ p₂ r m out store work)
  both_row = record { numbers_are = refl; files_are = refl }

  -- refused, by number, file and record, exactly where that comes first in the published order
  pub both_refused : (n f k : ℕ) → (composed_both L i₁ p₁ i₂ p₂ r m out store work ≡ refuses (refusal_at n f k)) ↔ FirstOf (both_lines L i₁ p₁ i₂ p₂ r m out store work) n f k
  unfolding composed_both
  both_refused = refused_by _ _ both_match said

  -- accepted exactly where nothing applies
  pub both_accepted : (composed_both L i₁ p₁ i₂ p₂ r m out store work ≡ says said) ↔ NoneOf (both_lines L i₁ p₁ i₂ p₂ r m out store work)
  unfolding composed_both
  both_accepted = accepted_by _ _ both_match said
