-- The composed verdict is refused by the first line of its published order that applies; where it is not, the known graph has its entries, and the verdict is that on the known
-- graph and the unwritten side.
-- Its theorems that rest on a definition which a must-fail edit turns stand in proofs/Theorems/Composing/Laws.
use Rattle.std.specs.Prelude.{◌≡◌, ◌⊎◌, ◌↔◌, List, [], ◌∷◌, ℕ, ◌<◌, true, false}
use Rattle.std.proofs.Math.Path.{refl}
use Rattle.std.proofs.Common.{arith}
use Rattle.files.specs.Basics.Says.{says_lt, says_or}
use Rattle.files.specs.Decode.{decode_graph, decode_property, decode_interface, decode_rules}
use Rattle.files.specs.Interface.{Of}
use Rattle.files.specs.Outcome.{Said, refuses, says, refusal_at, line, whole_line, file_lines, out_line, NoneOf, FirstOf, Matches, NoStart, TooLarge, answered}
use Rattle.files.specs.Outcome.Calls as calls
use Rattle.files.specs.Outcome.Laws.{whole_match, scan_match, files_match, out_match, refused_by, accepted_by, says_no_start, says_too_large, past_line, past_file}
use Rattle.files.specs.Property.{Property}
use Rattle.files.specs.Refusal.{graph, property, rules, interface}
use Rattle.files.specs.Rules.{watch}
use Rattle.files.specs.Sides.{ForeignAt, Shares, LacksEntry, Entered, Unprovided}
use Rattle.files.specs.Sides.Entries.{says_lacks_entry}
use Rattle.files.specs.Sides.Laws.{foreign_finds, says_shares, says_unprovided}
use Rattle.files.specs.Sides.OfInterface.{of_foreign}
use Rattle.files.specs.declared.record.Limits.{Limits}
use Rattle.runs.specs.Composing.{known, unwritten, gives, compose_store, compose_work, other_side, compose_graph, compose_sides, compose_verdict, compose_checks, compose_lines, composed, compose_first, compose_said, compose_last}
use Rattle.runs.specs.Composing.Entries.{SidesSay}
use Rattle.files.specs.Outcome.{published}

-- ---- the call

pub record ComposeSays (ki kg oi p r : List ℕ) (m : ℕ) (s : Said) : Type 0 where
  pub is_property : Property (decode_property p)
  pub known_entered : Entered (decode_interface ki) (decode_graph kg)
  pub on_sides : SidesSay (known (decode_graph kg)) (unwritten (decode_interface oi) (decode_property p)) (watch (decode_rules r)) m s

module _ (L : Limits) (ki kg oi p r : List ℕ) (m out store work : ℕ) where
  abbrev pub said : Said
  said = compose_verdict L ki kg oi p r m out

  pub compose_match : Matches (compose_checks L ki kg oi p r m out store work) (compose_lines L ki kg oi p r m out store work)
  compose_match =
      whole_match 13 _ ((store < compose_store) ⊎ (work < compose_work)) (says_or (says_lt store compose_store) (says_lt work compose_work)) _ _
      (files_match L 1 interface ki _ _ (files_match L 2 graph kg _ _ (files_match L 3 interface oi _ _ (files_match L 4 property p _ _ (files_match L 5 rules r _ _
      (whole_match 3 _ _ (says_no_start m) _ _
      (scan_match 9 2 _ _ (foreign_finds (decode_interface ki) kg) _ _
      (whole_match 9 _ _ (says_shares (decode_interface ki) (decode_interface oi)) _ _
      (whole_match 16 _ _ (says_lacks_entry (decode_interface ki) (decode_graph kg)) _ _
      (whole_match 10 _ _ (says_unprovided (compose_sides L ki kg oi p r m out) m) _ _
      (whole_match 11 _ _ (says_or (says_too_large L (gives (other_side L ki kg oi p r m out))) (says_too_large L (compose_graph L ki kg oi p r m out))) _ _
      (out_match out said))))))))))))

  pub composed_is : composed L ki kg oi p r m out store work ≡ answered (compose_first L ki kg oi p r m store work (compose_last L false kg oi p r m out)) (compose_said false kg oi p r m)
  unfolding composed
  composed_is = refl

  -- the lines stand in the published order
  pub compose_order : published (compose_lines L ki kg oi p r m out store work) ≡ true
  compose_order = refl

  -- and are the call's row of the table
  pub compose_row : calls.Row L calls.compose (ki ∷ kg ∷ oi ∷ p ∷ r ∷ []) (compose_lines L ki kg oi p r m out store work)
  compose_row = record { numbers_are = refl; files_are = refl }

  -- refused, by number, file and record, exactly where that comes first in the published order
  pub compose_refused : (n f k : ℕ) → (composed L ki kg oi p r m out store work ≡ refuses (refusal_at n f k)) ↔ FirstOf (compose_lines L ki kg oi p r m out store work) n f k
  unfolding composed
  compose_refused = refused_by _ _ compose_match said

  -- a known graph of its interface is never refused by 9
  pub compose_own : Of (decode_interface ki) (decode_graph kg) → (k : ℕ) → FirstOf (compose_lines L ki kg oi p r m out store work) 9 2 k → ⊥
  compose_own of k x =
      let start =
      whole_line 3 (NoStart m) (line 9 2 (ForeignAt (decode_interface ki) kg) (whole_line 9 (Shares (decode_interface ki) (decode_interface oi))
      (whole_line 16 (LacksEntry (decode_interface ki) (decode_graph kg)) (whole_line 10 (Unprovided (compose_sides L ki kg oi p r m out) m)
      (whole_line 11 (TooLarge L (gives (other_side L ki kg oi p r m out)) ⊎ TooLarge L (compose_graph L ki kg oi p r m out)) (out_line out said))))))
      in
      let other = file_lines L 3 interface oi (file_lines L 4 property p (file_lines L 5 rules r start)) in
      let a0 = past_line (λ y. omega (arith, y.0)) x in
      let a1 = past_file L 1 interface ki (file_lines L 2 graph kg other) 9 2 k (omega arith) a0.1 in
      let a2 = past_file L 2 graph kg other 9 2 k (omega arith) a1.1 in
      let a3 = past_file L 3 interface oi (file_lines L 4 property p (file_lines L 5 rules r start)) 9 2 k (omega arith) a2.1 in
      let a4 = past_file L 4 property p (file_lines L 5 rules r start) 9 2 k (omega arith) a3.1 in
      let a5 = past_file L 5 rules r start 9 2 k (omega arith) a4.1 in
      let a6 = past_line (λ y. omega (arith, y.0)) a5.1 in
      let a7 = past_line (λ y. of_foreign L (decode_interface ki) kg a2.0 of k y.1.1.0) a6.1 in
      let a8 = past_line (λ y. omega (arith, y.1.0)) a7.1 in
      let a9 = past_line (λ y. omega (arith, y.0)) a8.1 in
      let a10 = past_line (λ y. omega (arith, y.0)) a9.1 in
      let a11 = past_line (λ y. omega (arith, y.0)) a10.1 in
      (past_line (λ y. omega (arith, y.0)) a11.1).1

  -- accepted exactly where nothing applies
  pub compose_accepted : (composed L ki kg oi p r m out store work ≡ says said) ↔ NoneOf (compose_lines L ki kg oi p r m out store work)
  unfolding composed
  compose_accepted = accepted_by _ _ compose_match said
