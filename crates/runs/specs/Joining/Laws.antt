-- Joining is refused by the first line of its published order that applies, and otherwise says what `Joins` says.
use Rattle.std.specs.Prelude.{◌≡◌, refl, ◌↔◌, List, [], ◌∷◌, ℕ, ◌<◌, true, length, Err}
use Rattle.std.proofs.Common.{sym, ◌∙◌, arith}
use Rattle.std.proofs.Math.Path.{ap, subst}
use Rattle.std.proofs.Math.Option.{none}
use Rattle.files.specs.Decode.{decode_graph, decode_interface, graph_bytes}
use Rattle.files.specs.Decode.Accepted.{accepted_bytes}
use Rattle.files.specs.Decode.Graphs.{decoded_filed}
use Rattle.files.specs.Decode.Written.{decode_bytes}
use Rattle.files.specs.Interface.{Of}
use Rattle.files.specs.Outcome.{Said, refuses, says, refusal_at, Lines, line, whole_line, file_lines, out_line, NoneOf, FirstOf, Matches, TooLarge, answer, graph_said}
use Rattle.files.specs.Outcome.Calls as calls
use Rattle.files.specs.Outcome.Laws.{whole_match, scan_match, files_match, out_match, refused_by, accepted_by, verdict_is, file_accepted, whole_none, none_e, says_too_large, small_enough, past_line, past_file}
use Rattle.files.specs.Refusal.{graph, interface, refusal}
use Rattle.files.specs.Sides.{ForeignAt, Shares}
use Rattle.files.specs.Sides.Laws.{foreign_finds, says_shares, none_foreign}
use Rattle.files.specs.Sides.OfInterface.{of_foreign}
use Rattle.files.specs.declared.record.Limits.{Limits}
use Rattle.files.specs.Join.Laws.{join_filed, join_of}
use Rattle.runs.specs.Joining.{Written, join_graph, join_sides, join_said, join_checks, join_lines, joined, Joins, joined_answer}
use Rattle.files.specs.Outcome.{published}
use Rattle.files.specs.declared.refusal.Refusal.{Refusal}
use Rattle.files.specs.Graph.{size, Graph}

module _ (L : Limits) (i1 g1 i2 g2 : List ℕ) (out : ℕ) where
  abbrev said : Said
  said = join_said L i1 g1 i2 g2 out

  -- the lines from 9 on
  abbrev sides : Lines
  sides =
      line 9 2 (ForeignAt (decode_interface i1) g1) (line 9 4 (ForeignAt (decode_interface i2) g2) (whole_line 9 (Shares (decode_interface i1) (decode_interface i2))
      (whole_line 11 (TooLarge L (join_graph L i1 g1 i2 g2 out)) (out_line out said))))

  join_match : Matches (join_checks L i1 g1 i2 g2 out) (join_lines L i1 g1 i2 g2 out)
  join_match =
      files_match L 1 interface i1 _ _ (files_match L 2 graph g1 _ _ (files_match L 3 interface i2 _ _ (files_match L 4 graph g2 _ _
      (scan_match 9 2 _ _ (foreign_finds (decode_interface i1) g1) _ _ (scan_match 9 4 _ _ (foreign_finds (decode_interface i2) g2) _ _
      (whole_match 9 _ _ (says_shares (decode_interface i1) (decode_interface i2)) _ _
      (whole_match 11 _ _ (says_too_large L (join_graph L i1 g1 i2 g2 out)) _ _ (out_match out said))))))))

  -- the lines stand in the published order
  pub join_order : published (join_lines L i1 g1 i2 g2 out) ≡ true
  join_order = refl

  -- and are the call's row of the table
  pub join_row : calls.Row L calls.join (i1 ∷ g1 ∷ i2 ∷ g2 ∷ []) (join_lines L i1 g1 i2 g2 out)
  join_row = record { numbers_are = refl; files_are = refl }

  -- refused, by number, file and record, exactly where that comes first in the published order
  pub join_refused : (n f r : ℕ) → (joined L i1 g1 i2 g2 out ≡ refuses (refusal_at n f r)) ↔ FirstOf (join_lines L i1 g1 i2 g2 out) n f r
  unfolding joined
  join_refused = refused_by _ _ join_match said

  -- where 9 comes first both graph files are accepted
  at_sides : (f k : ℕ) → FirstOf (join_lines L i1 g1 i2 g2 out) 9 f k → (refusal L graph g1 ≡ none) × (refusal L graph g2 ≡ none) × FirstOf sides 9 f k
  at_sides f k x =
      let a1 = past_file L 1 interface i1 (file_lines L 2 graph g1 (file_lines L 3 interface i2 (file_lines L 4 graph g2 sides))) 9 f k (omega arith) x in
      let a2 = past_file L 2 graph g1 (file_lines L 3 interface i2 (file_lines L 4 graph g2 sides)) 9 f k (omega arith) a1.1 in
      let a3 = past_file L 3 interface i2 (file_lines L 4 graph g2 sides) 9 f k (omega arith) a2.1 in
      let a4 = past_file L 4 graph g2 sides 9 f k (omega arith) a3.1 in
      (a2.0, a4.0, a4.1)

  -- past 9 of a graph nothing is 9 of a file
  shared_on : (f k : ℕ) → 0 < f → FirstOf (whole_line 9 (Shares (decode_interface i1) (decode_interface i2)) (whole_line 11 (TooLarge L (join_graph L i1 g1 i2 g2 out)) (out_line out said))) 9 f k → ⊥
  shared_on f k h x =
      let a = past_line (λ y. omega (arith, h, y.1.0)) x in
      let b = past_line (λ y. omega (arith, y.0)) a.1 in
      (past_line (λ y. omega (arith, y.0)) b.1).1

  -- a graph of its interface is never refused by 9: the first side's ..
  pub join_own : Of (decode_interface i1) (decode_graph g1) → (k : ℕ) → FirstOf (join_lines L i1 g1 i2 g2 out) 9 2 k → ⊥
  join_own of k x =
      let a = at_sides 2 k x in
      let b = past_line (λ y. of_foreign L (decode_interface i1) g1 a.0 of k y.1.1.0) a.2 in
      shared_on 2 k (omega arith) (past_line (λ y. omega (arith, y.1.0)) b.1).1

  -- .. and the second side's
  pub join_own_second : Of (decode_interface i2) (decode_graph g2) → (k : ℕ) → FirstOf (join_lines L i1 g1 i2 g2 out) 9 4 k → ⊥
  join_own_second of k x =
      let a = at_sides 4 k x in
      let b = past_line (λ y. omega (arith, y.1.0)) a.2 in
      shared_on 4 k (omega arith) (past_line (λ y. of_foreign L (decode_interface i2) g2 a.1 of k y.1.1.0) b.1).1

  -- accepted exactly where nothing applies
  pub join_accepted : (joined L i1 g1 i2 g2 out ≡ says said) ↔ NoneOf (join_lines L i1 g1 i2 g2 out)
  unfolding joined
  join_accepted = accepted_by _ _ join_match said

  -- Whatever the bytes and the length: what joining says where it is not refused.
  pub join_says : (s : Said) → joined L i1 g1 i2 g2 out ≡ says s → Joins L (decode_interface i1) (decode_interface i2) (decode_graph g1) (decode_graph g2) s
  unfolding joined
  join_says s e =
      let a = verdict_is _ _ join_match said s e in
      let b1 = file_accepted L 1 interface i1 _ a.1 in
      let b2 = file_accepted L 2 graph g1 _ b1.1 in
      let b3 = file_accepted L 3 interface i2 _ b2.1 in
      let b4 = file_accepted L 4 graph g2 _ b3.1 in
      let c1 = none_e 9 2 (ForeignAt (decode_interface i1) g1) _ b4.1 in
      let c2 = none_e 9 4 (ForeignAt (decode_interface i2) g2) _ c1.1 in
      let c3 = whole_none 9 _ _ c2.1 in
      let c4 = whole_none 11 _ _ c3.1 in
      let h = small_enough L (join_graph L i1 g1 i2 g2 out) c4.0 in
      let w : s.written ≡ graph_bytes (join_graph L i1 g1 i2 g2 out) = ap (λ (x : Said). x.written) a.0 in
      let d : decode_graph s.written ≡ join_graph L i1 g1 i2 g2 out = ap decode_graph w ∙ decode_bytes (join_graph L i1 g1 i2 g2 out) in
      record {
        verdict_one = ap (λ (x : Said). x.verdict) a.0;
        accepted = ap (refusal L graph) w
            ∙ accepted_bytes L (join_graph L i1 g1 i2 g2 out) (join_filed (decode_graph g1) (decode_graph g2) L (decoded_filed L g1 b2.0) (decoded_filed L g2 b4.0) h.0 h.1);
        is_the_join = d;
        counted = ap (λ (x : Said). x.values) a.0;
        of_united = subst (Of (join_sides L i1 g1 i2 g2 out)) (sym d)
            (join_of (decode_graph g1) (decode_graph g2) (decode_interface i1) (decode_interface i2) (none_foreign L (decode_interface i1) g1 b2.0 c1.0)
            (none_foreign L (decode_interface i2) g2 b4.0 c2.0));
      }

-- ---- the answer enum

-- each case answers what its outcome says
pub join_answers : (G : Graph) (p q : ℕ) (r : Refusal)
    → (joined_answer (Written (size G) (length G.edges) p q) ≡ answer (says (graph_said G (p ∷ q ∷ [])))) × (joined_answer (Err r) ≡ answer (refuses r))
join_answers G p q r = (refl, refl)
