-- Showing is refused by the first line of its published order that applies, and otherwise says what `Shows` says.
use Rattle.std.specs.Prelude.{◌≡◌, ◌↔◌, Bool, not, List, [], ◌∷◌, ℕ, ◌+◌, ◌-◌, ◌≤◌, ◌<◌, Err}
use Rattle.std.proofs.Math.Path.{refl, ap, subst}
use Rattle.std.proofs.Common.{sym, ◌∙◌}
use Rattle.std.proofs.Math.Bool.{true, false, cond}
use Rattle.std.proofs.Math.Option.{none}
use native.Mathlib.Omega.{arith}
use Rattle.std.proofs.Math.Dec.{T, ltb, ltb→lt, nltb→le}
use Rattle.files.specs.Basics.Says.{says_le}
use Rattle.files.specs.Decode.{decode_graph, node_rec}
use Rattle.files.specs.Decode.Canonical.{shown_node}
use Rattle.files.specs.Graph.{size, node}
use Rattle.files.specs.Outcome.{Said, refuses, says, refusal_at, answered, NoneOf, FirstOf, Matches, no_lines, answer}
use Rattle.files.specs.Outcome.Calls as calls
use Rattle.files.specs.Outcome.Laws.{whole_match, files_match, refused_by, accepted_by, verdict_is, file_accepted, whole_none, match_end}
use Rattle.files.specs.Record.{part, six}
use Rattle.files.specs.Refusal.{graph, refusal}
use Rattle.files.specs.declared.record.Limits.{Limits}
use Rattle.files.specs.Join.{join}
use Rattle.files.specs.Join.Laws.{join_first, join_second, join_size}
use Rattle.runs.specs.Showing.{Part, part_said, show_size, show_said, show_checks, show_lines, shown, Shows, shown_answer}
use Rattle.files.specs.Basics.Tests.{below}
use Rattle.files.specs.Outcome.{published}
use Rattle.files.specs.declared.refusal.Refusal.{Refusal}

module _ (L : Limits) (g1 g2 : List ℕ) (number : ℕ) where
  abbrev said : Said
  said = show_said L g1 g2 number

  show_match : Matches (show_checks L g1 g2 number) (show_lines L g1 g2 number)
  show_match = files_match L 1 graph g1 _ _ (files_match L 2 graph g2 _ _ (whole_match 7 _ _ (says_le (show_size L g1 g2 number) number) [] no_lines match_end))

  -- the lines stand in the published order
  pub show_order : published (show_lines L g1 g2 number) ≡ true
  show_order = refl

  -- and are the call's row of the table
  pub show_row : calls.Row L calls.show (g1 ∷ g2 ∷ []) (show_lines L g1 g2 number)
  show_row = record { numbers_are = refl; files_are = refl }

  -- refused, by number, file and record, exactly where that comes first in the published order
  pub show_refused : (n f r : ℕ) → (shown L g1 g2 number ≡ refuses (refusal_at n f r)) ↔ FirstOf (show_lines L g1 g2 number) n f r
  unfolding shown
  show_refused = refused_by _ _ show_match said

  -- accepted exactly where nothing applies
  pub show_accepted : (shown L g1 g2 number ≡ says said) ↔ NoneOf (show_lines L g1 g2 number)
  unfolding shown
  show_accepted = accepted_by _ _ show_match said

  -- the outcome by its checks
  pub shown_is : shown L g1 g2 number ≡ answered (show_checks L g1 g2 number) said
  unfolding shown
  shown_is = refl

  -- Whatever the bytes and the number: what showing says where it is not refused.
  pub show_says : (s : Said) → shown L g1 g2 number ≡ says s → Shows (decode_graph g1) (decode_graph g2) number s
  unfolding shown
  show_says s e =
      let a = verdict_is _ _ show_match said s e in
      let b1 = file_accepted L 1 graph g1 _ a.1 in
      let b2 = file_accepted L 2 graph g2 _ b1.1 in
      let c = whole_none 7 (show_size L g1 g2 number ≤ number) _ b2.1 in
      let h : number < show_size L g1 g2 number = below number (show_size L g1 g2 number) c.0 in
      record {
        verdict_one = ap (λ (x : Said). x.verdict) a.0;
        in_range = subst (λ (n : ℕ). number < n) (sym (join_size (decode_graph g1) (decode_graph g2))) h;
        part_is = ap (λ (x : Said). x.written) a.0 ∙ go (ltb number (size (decode_graph g1))) refl b1.0 b2.0 h;
      }
    where
      go : (b : Bool) → ltb number (size (decode_graph g1)) ≡ b → refusal L graph g1 ≡ none → refusal L graph g2 ≡ none → number < show_size L g1 g2 number
          → cond b (part g1 number 1) (part g2 (number - size (decode_graph g1)) 1) ≡ six (node_rec (node (join (decode_graph g1) (decode_graph g2)) number))
      go true q x y h =
          let k : number < size (decode_graph g1) = ltb→lt _ _ (subst T (sym q) tt) in
          shown_node L g1 x number k ∙ ap (λ v. six (node_rec v)) (sym (join_first (decode_graph g1) (decode_graph g2) number k))
      go false q x y h =
          let k : size (decode_graph g1) ≤ number = nltb→le number (size (decode_graph g1)) (subst (λ (b : Bool). T (not b)) (sym q) tt) in
          let j = number - size (decode_graph g1) in
          let i : size (decode_graph g1) + j ≡ number = omega arith in
          shown_node L g2 y j (omega arith) ∙ ap (λ v. six (node_rec v)) (sym (join_second (decode_graph g1) (decode_graph g2) j) ∙ ap (node (join (decode_graph g1) (decode_graph g2))) i)

-- ---- the answer enum

-- each case answers what its outcome says
pub show_answers : (ws : List ℕ) (r : Refusal) → (shown_answer Part ≡ answer (says (part_said ws))) × (shown_answer (Err r) ≡ answer (refuses r))
show_answers ws r = (refl, refl)
