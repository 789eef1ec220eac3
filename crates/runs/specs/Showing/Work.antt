-- Showing as the code comes to it: where a number stands, through each check.
use Rattle.files.specs.declared.check.FileCounts.{FileCounts}
use Rattle.files.specs.Checking.{checked}
use Rattle.std.specs.Prelude.{◌≡◌, Bool, cond, List, [], ℕ, ◌+◌, ◌*◌, ◌-◌, ◌≤◌, ◌<◌, leb, length, Result, Ok, Err}
use Rattle.std.proofs.Math.Path.{refl}
use Rattle.std.proofs.Common.{sym, ap, ap₂, subst, ◌∙◌, arith, lt-ltb, le-ltb, le-leb}
use Rattle.std.proofs.Math.Option.{Option, none}
use Rattle.std.proofs.Math.Decide.{dec_lt}
use Rattle.std.proofs.lemmas.Bool.{lt-leb}
use Rattle.files.specs.Decode.{decode_graph}
use Rattle.files.specs.Graph.{size}
use Rattle.files.specs.Outcome.{Said, says, refusal_at, file_checks, answered, answer, written_of, Checked}
use Rattle.files.specs.Outcome.Ends.{whole_refuses, whole_passes}
use Rattle.files.specs.Places.{record_len}
use Rattle.files.specs.Record.{count, part}
use Rattle.files.specs.Refusal.{graph, nodes_of, refusal}
use Rattle.files.specs.Settling.{or_else, Settles}
use Rattle.files.specs.Settling.Calls.{refuses_is, left_is}
use Rattle.files.specs.Settling.Laws.{file_settles, settled_as, passed_then, refused_then, hands_on, file_known}
use Rattle.files.specs.View.{Views, view_size, view_records}
use Rattle.files.specs.declared.record.Limits.{Limits}
use Rattle.files.specs.declared.refusal.Refusal.{Refusal}
use Rattle.files.specs.declared.view.GraphView.{GraphView}
use Rattle.runs.specs.Showing.{shown_answer, show_first, show_last, show_size, show_said, shown, part_said, outcome_at, Stands, place_of, unless_refused, found_place, shown_at}
use Rattle.runs.specs.declared.showing.Place.{Place}
use Rattle.runs.specs.declared.showing.Place.TheVariants as place

-- a record before the last stands in its file
record_in : (l : List ℕ) (i : ℕ) → i < count l → record_len * i + record_len ≤ length l
record_in l i h = omega arith

module _ {A : Type 0} (L : Limits) (g1 g2 : List ℕ) (number : ℕ) {x : Result A Refusal} (settles : Settles (show_first L g1 g2) x) where
  abbrev said : Said
  said = show_said L g1 g2 number

  abbrev there : Result Place Refusal
  there = place_of number (size (decode_graph g1)) (size (decode_graph g2))

  shown_is : shown L g1 g2 number ≡ answered (show_first L g1 g2 (show_last L g1 g2 number)) said
  unfolding shown
  shown_is = refl

  -- the place that is found, by what the checks of the files come to
  pub refused_place : {r : Refusal} → x ≡ Err r → Err r ≡ found_place L g1 g2 number
  refused_place e = ap (λ (o : Option Refusal). unless_refused o there) (sym (settles.first_is [] ∙ ap (λ (y : Result A Refusal). or_else y none) e))

  pub passed_place : {a : A} → x ≡ Ok a → {v w : GraphView} → Views v g1 → Views w g2 → place_of number v.nodes w.nodes ≡ found_place L g1 g2 number
  passed_place e a b =
      ap₂ (λ (n m : ℕ). place_of number n m) (sym (view_size a)) (sym (view_size b))
      ∙ ap (λ (o : Option Refusal). unless_refused o there) (sym (settles.first_is [] ∙ ap (λ (y : Result A Refusal). or_else y none) e))

  -- a file is refused
  stands_refused : {r : Refusal} → x ≡ Err r → Stands (shown L g1 g2 number) g1 g2 (Err r)
  stands_refused e = (refuses_is (show_first L g1 g2) (show_last L g1 g2 number) said settles shown_is e, tt)

  -- both are accepted, and held by these views
  module _ {h : A} (e : x ≡ Ok h) {v w : GraphView} (a : Views v g1) (b : Views w g2) where
    onward : shown L g1 g2 number ≡ answered (show_last L g1 g2 number) said
    onward = left_is (show_first L g1 g2) (show_last L g1 g2 number) said settles shown_is e

    below : number < v.nodes + w.nodes → shown L g1 g2 number ≡ says said
    below h = onward ∙ whole_passes 7 (leb (show_size L g1 g2 number) number) [] said (lt-leb (show_size L g1 g2 number) number (omega (arith, view_size a, view_size b)))

    -- in the first file
    stands_first : number < v.nodes → Stands (shown L g1 g2 number) g1 g2 (Ok (place.First number))
    stands_first h = (
      below (omega arith) ∙ ap (λ (b : Bool). says (part_said (cond b (part g1 number 1) (part g2 (number - size (decode_graph g1)) 1))))
          (lt-ltb number (size (decode_graph g1)) (omega (arith, view_size a))),
      record_in g1 number (omega (arith, view_records a)),
    )

    -- in the second, counted on from the first's nodes
    stands_second : v.nodes ≤ number → number - v.nodes < w.nodes → Stands (shown L g1 g2 number) g1 g2 (Ok (place.Second (number - v.nodes)))
    stands_second h k = (
      below (omega arith)
          ∙ ap (λ (b : Bool). says (part_said (cond b (part g1 number 1) (part g2 (number - size (decode_graph g1)) 1))))
          (le-ltb number (size (decode_graph g1)) (omega (arith, view_size a)))
          ∙ ap (λ (i : ℕ). says (part_said (part g2 (number - i) 1))) (view_size a),
      record_in g2 (number - v.nodes) (omega (arith, view_records b)),
    )

    -- in neither
    stands_nowhere : v.nodes ≤ number → w.nodes ≤ number - v.nodes → Stands (shown L g1 g2 number) g1 g2 (Err (refusal_at 7 0 0))
    stands_nowhere h k =
        (onward ∙ whole_refuses 7 (leb (show_size L g1 g2 number) number) [] said (le-leb (show_size L g1 g2 number) number (omega (arith, view_size a, view_size b))), tt)

    stands_placed : Stands (shown L g1 g2 number) g1 g2 (place_of number v.nodes w.nodes)
    stands_placed = first (dec_lt number v.nodes) (dec_lt (number - v.nodes) w.nodes)
      where
        first : Dec (number < v.nodes) → Dec (number - v.nodes < w.nodes) → Stands (shown L g1 g2 number) g1 g2 (place_of number v.nodes w.nodes)
        first (yes h) d = rw (lt-ltb number v.nodes h) (stands_first h)
        first (no h) (yes k) = rw (le-ltb number v.nodes (omega arith), lt-ltb (number - v.nodes) w.nodes k) (stands_second (omega arith) k)
        first (no h) (no k) = rw (le-ltb number v.nodes (omega arith), le-ltb (number - v.nodes) w.nodes (omega arith)) (stands_nowhere (omega arith) (omega arith))

-- ---- the place found is that of the outcome

views_of : (L : Limits) (g : List ℕ) → refusal L graph g ≡ none → Views (record { nodes = nodes_of g; edges = count g - nodes_of g }) g
views_of L g e = record { graph_file = record { limits = L; accepted = e }; nodes_are = refl; edges_are = refl }

pub stands_found : (L : Limits) (g1 g2 : List ℕ) (number : ℕ) → Stands (shown L g1 g2 number) g1 g2 (found_place L g1 g2 number)
stands_found L g1 g2 number = first (checked L graph g1 1) refl (checked L graph g2 2) refl
  where
    refused : {r : Refusal} → Settles {A = FileCounts} (show_first L g1 g2) (Err r) → Stands (shown L g1 g2 number) g1 g2 (found_place L g1 g2 number)
    refused s = subst (Stands (shown L g1 g2 number) g1 g2) (refused_place L g1 g2 number s refl) (stands_refused L g1 g2 number s refl)

    passed : {c : FileCounts} → Settles (show_first L g1 g2) (Ok c) → Stands (shown L g1 g2 number) g1 g2 (found_place L g1 g2 number)
    passed s =
        let a = file_known (λ cs. file_checks L 2 graph g2 cs) L 1 graph g1 (hands_on s refl) in
        let b = file_known (λ cs. cs) L 2 graph g2 a.1 in
        subst (Stands (shown L g1 g2 number) g1 g2) (passed_place L g1 g2 number s refl (views_of L g1 a.0) (views_of L g2 b.0))
        (stands_placed L g1 g2 number s refl (views_of L g1 a.0) (views_of L g2 b.0))

    second : (x : Checked) → Settles (show_first L g1 g2) x → Stands (shown L g1 g2 number) g1 g2 (found_place L g1 g2 number)
    second (Err r) s = refused s
    second (Ok c) s = passed s

    first : (x : Checked) → checked L graph g1 1 ≡ x → (y : Checked) → checked L graph g2 2 ≡ y → Stands (shown L g1 g2 number) g1 g2 (found_place L g1 g2 number)
    first (Err r) e y d = refused (refused_then (file_settles L 1 graph g1) (sym e) refl)
    first (Ok c) e y d = second y (passed_then (file_settles L 1 graph g1) (sym e) (settled_as (file_settles L 2 graph g2) (sym d)))

-- ---- from a place to the part and the answer

module _ (L : Limits) (g1 g2 : List ℕ) (number : ℕ) (p : Result Place Refusal) (found : p ≡ found_place L g1 g2 number) where
  stands : Stands (shown L g1 g2 number) g1 g2 p
  stands = subst (Stands (shown L g1 g2 number) g1 g2) (sym found) (stands_found L g1 g2 number)

  pub found_answer : shown_answer (shown_at p) ≡ answer (shown L g1 g2 number)
  found_answer = same p ∙ sym (ap answer stands.0)
    where
      same : (p : Result Place Refusal) → shown_answer (shown_at p) ≡ answer (outcome_at g1 g2 p)
      same (Ok (place.First i)) = refl
      same (Ok (place.Second i)) = refl
      same (Err r) = refl

  pub found_first : (i : ℕ) → p ≡ Ok (place.First i) → (record_len * i + record_len ≤ length g1) × (part g1 i 1 ≡ written_of (shown L g1 g2 number))
  found_first i e = let s = subst (Stands (shown L g1 g2 number) g1 g2) e stands in (s.1, sym (ap written_of s.0))

  pub found_second : (i : ℕ) → p ≡ Ok (place.Second i) → (record_len * i + record_len ≤ length g2) × (part g2 i 1 ≡ written_of (shown L g1 g2 number))
  found_second i e = let s = subst (Stands (shown L g1 g2 number) g1 g2) e stands in (s.1, sym (ap written_of s.0))

  pub found_nowhere : (r : Refusal) → p ≡ Err r → [] ≡ written_of (shown L g1 g2 number)
  found_nowhere r e = sym (ap written_of (subst (Stands (shown L g1 g2 number) g1 g2) e stands).0)
