-- The theorems of specs/Levels/Sheet/Laws that rest on a definition which a must-fail edit turns: there they could not be read under the edit.
-- Laws: What the fault sheet lists: it starts at the lowest failing entry, and has what is reached from there by causes, breadth first, each pair once, and
-- nothing else. Each of its records is a pair that is listed, with its causes.
use Rattle.std.specs.Prelude.{◌≡◌, not, ℕ}
use Rattle.std.proofs.Math.Path.{refl, ap, subst}
use Rattle.std.proofs.Common.{sym, ◌∙◌}
use mathlib.Core.List.Memᴰ
use mathlib.Core.List.{List, [], ◌∷◌, Memᴰ}
use Rattle.std.proofs.Math.Dec.{T}
use Rattle.std.proofs.Math.ListN.{length}
use Rattle.files.specs.Basics.Breadth.{Nearer, in_order}
use Rattle.files.specs.Basics.InTurn.{InTurn, in_turn, only_in_turn}
use Rattle.files.specs.Basics.Order.{Ascends}
use Rattle.files.specs.Basics.Queue.{From, itself, listed, starts_with, onward}
use Rattle.files.specs.Basics.Tests.{grid, grid_i}
use Rattle.files.specs.Graph.{Graph, size, Flow}
use Rattle.files.specs.Property.{Row, either, row, Property}
use Rattle.judging.specs.Levels.{satisfies}
use Rattle.judging.specs.Levels.Sheet.{same_pair, Fault, row_causes, causes, failing, pairs, sheet}
use Rattle.judging.proofs.Theorems.Levels.Sheet.Causes.{cause_false, reason, cause_lower}
use Rattle.judging.specs.Levels.Sheet.Meaning.{Wrong, Caused, Lists, SheetShows}
use Rattle.judging.specs.Levels.Sheet.Laws.{failing_entry, failing_lowest, failing_wrong, same_pair_e, same_pair_refl, sheet_causes, sheet_pairs, walked}

module _ (G : Graph) (P : List Row) (flow : Flow G) (wf : Property P) where
  from_wrong : (s x : ℕ × ℕ) → Wrong G P s → From same_pair (causes G P) s x → Wrong G P x
  from_wrong s x w itself = w
  from_wrong s x w (onward y z f m) = cause_false G P flow wf y z (from_wrong s y w f) m

  module _ (bad : T (not (satisfies G P))) where
    met_in : (x : ℕ × ℕ) → Caused G P x → Memᴰ x (grid (size G) (length P))
    met_in x f =
        let w = from_wrong (failing G P, 0) x ((failing_wrong G P flow wf) bad) f in grid_i (size G) (length P) x.0 x.1 w.is_node w.is_row

    pub pairs_are : Lists G P (pairs G P)
    pairs_are =
        let l = listed same_pair same_pair_e same_pair_refl (causes G P) (failing G P, 0) (grid (size G) (length P)) met_in in
        let a = starts_with same_pair (causes G P) (length (grid (size G) (length P))) (failing G P, 0) in
        subst (Lists G P) (walked G P flow wf bad) (record {
          rest = a.0;
          starts = a.1;
          all_false = λ x m. from_wrong (failing G P, 0) x ((failing_wrong G P flow wf) bad) (l.all_met x m);
          reached = l.all_met;
          complete = λ x f. full _ (subst (λ (xs : List (ℕ × ℕ)). Memᴰ (failing G P, 0) xs) (sym a.1) (Memᴰ.head refl)) l.all_named x f;
          causes_listed = λ x y m k. l.all_named x m y k;
          once = l.no_repeat;
        })
      where
        full : (xs : List (ℕ × ℕ)) → Memᴰ (failing G P, 0) xs → ((x : ℕ × ℕ) → Memᴰ x xs → (y : ℕ × ℕ) → Memᴰ y (causes G P x) → Memᴰ y xs)
            → (x : ℕ × ℕ) → Caused G P x → Memᴰ x xs
        full xs s f x itself = s
        full xs s f x (onward y z r m) = f y (full xs s f y r) z m

    -- breadth first: no pair is farther from the first, by causes, than one that stands after it
    pub pairs_breadth_first : Ascends (Nearer (causes G P) (failing G P, 0)) (pairs G P)
    pairs_breadth_first =
        subst (Ascends (Nearer (causes G P) (failing G P, 0))) (walked G P flow wf bad)
        (in_order same_pair same_pair_e same_pair_refl (causes G P) (failing G P, 0) (grid (size G) (length P)) met_in)

    -- strictly: the causes of each pair in turn, each where it is first named ..
    pub pairs_in_turn : InTurn same_pair (causes G P) (failing G P, 0) (pairs G P)
    pairs_in_turn =
        subst (InTurn same_pair (causes G P) (failing G P, 0)) (walked G P flow wf bad)
        (in_turn same_pair same_pair_e same_pair_refl (causes G P) (failing G P, 0) (grid (size G) (length P)) met_in)

    -- .. and no other list of what is reached from the first pair stands in that order
    pub sheet_order : (xs : List (ℕ × ℕ)) → InTurn same_pair (causes G P) (failing G P, 0) xs → ((x : ℕ × ℕ) → Memᴰ x xs → Caused G P x) → xs ≡ pairs G P
    sheet_order xs t f =
        only_in_turn same_pair same_pair_e same_pair_refl (causes G P) (failing G P, 0) (grid (size G) (length P)) met_in xs t f ∙ (walked G P flow wf bad)

  -- where the property is not satisfied, the sheet shows why
  pub sheet_shows : T (not (satisfies G P)) → SheetShows G P (sheet G P)
  sheet_shows bad = record {
    lists = subst (Lists G P) (sym (sheet_pairs G P flow wf)) (pairs_are bad);
    first_entry = (failing_entry G P flow wf) bad;
    first_lowest = (failing_lowest G P flow wf);
    in_turn = subst (InTurn same_pair (causes G P) (failing G P, 0)) (sym (sheet_pairs G P flow wf)) (pairs_in_turn bad);
    breadth_first = subst (Ascends (Nearer (causes G P) (failing G P, 0))) (sym (sheet_pairs G P flow wf)) (pairs_breadth_first bad);
    names_causes = (sheet_causes G P flow wf);
    justified = λ f m. reason G P flow wf f.pair (is_wrong bad f m);
    lower_rank = λ f y m k. cause_lower G P flow wf f.pair y (is_wrong bad f m) k;
  }
    where
      is_wrong : T (not (satisfies G P)) → (f : Fault) → Memᴰ f (sheet G P) → Wrong G P f.pair
      is_wrong bad f m =
          (pairs_are bad).all_false f.pair (subst (λ (xs : List (ℕ × ℕ)). Memᴰ f.pair xs) (sheet_pairs G P flow wf) (Memᴰ.map (λ (f : Fault). f.pair) m))

module _ (G : Graph) (P : List Row) where
  module _ (g r : ℕ) where
    pub causes_either : (a b : ℕ) → row P r ≡ either a b → causes G P (g, r) ≡ (g, a) ∷ (g, b) ∷ []
    unfolding causes row_causes
    causes_either a b e = ap (row_causes G P g) e
