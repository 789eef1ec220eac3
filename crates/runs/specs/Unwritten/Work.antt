-- The verdict of two unwritten sides as the code comes to it: what is known where its checks passed; and that, once the first model stands, what is left is the composed verdict
-- with that model as the known graph.
-- Its theorems that rest on a definition which a must-fail edit turns stand in proofs/Theorems/Unwritten/Work.
use Rattle.std.specs.Prelude.{◌≡◌, Bool, true, false, ◌||◌, List, ◌++◌, ℕ, ◌-◌, ◌≤◌, length, take, drop}
use Rattle.std.proofs.Common.{sym, ap, ◌∙◌, append-nil, arith, length-drop, drop_of_length-le, take_all, drop_at, length-take-le}
use Rattle.std.proofs.Math.Option.{none}
use borrow.Rule.Slice.PartMut.{mid_of, put_mid, take_put}
use Rattle.files.specs.Access.{InterfaceFile}
use Rattle.files.specs.Decode.{decode_interface, decode_rules}
use Rattle.files.specs.Graph.{Graph}
use Rattle.files.specs.Join.{join}
use Rattle.files.specs.Outcome.{Said, Outcome, refuses, Answers, refused_answer, Check, whole_check, file_checks, out_check, answered, refusal_at, no_start, short, too_large, Passed}
use Rattle.files.specs.Outcome.Ends.{whole_refuses, answers_refused}
use Rattle.files.specs.Refusal.{property, rules, interface, refusal}
use Rattle.files.specs.Rules.{watch}
use Rattle.files.specs.Settling.{Row, Settles}
use Rattle.files.specs.Settling.Laws.{whole_known, file_known}
use Rattle.files.specs.Sides.{shares, lacks_entry, unprovided}
use Rattle.files.specs.declared.record.Limits.{Limits}
use Rattle.files.specs.declared.refusal.Refusal.{Refusal}
use Rattle.judging.specs.Judge.{Strides}
use Rattle.maximal.specs.Modelling.{Bounded}
use Rattle.maximal.specs.Places.{model_room}
use Rattle.runs.specs.Composing.{gives, joined_verdict, OtherSide}
use Rattle.runs.specs.Composing.Work.{both_long}
use Rattle.runs.specs.Unwritten.{both_store, both_work, first_side, second_side, both_graph, both_sides, both_said, both_first, both_last}

-- both buffers are long enough for limits such as these
pub record PairRoom (L : Limits) (store work : List ℕ) : Type 0 where
  pub strides : Strides L
  pub bounded : Bounded L
  pub store_long : both_store ≤ length store
  pub work_long : model_room ≤ length work

-- ---- the checks before the models

-- they passed
pub record Pairable (L : Limits) (i₁ p₁ i₂ p₂ r : List ℕ) (store work : ℕ) : Type 0 where
  pub store_long : both_store ≤ store
  pub work_long : both_work ≤ work
  pub first_side_filed : OtherSide L i₁ p₁
  pub second_side_filed : OtherSide L i₂ p₂
  pub rules_within : refusal L rules r ≡ none

-- the files of both sides, before whatever follows
pub sides_known : (L : Limits) (i₁ p₁ i₂ p₂ : List ℕ) (b : Bool) (rest : Row)
    → Settles (λ cs. whole_check 13 b (file_checks L 1 interface i₁ (file_checks L 2 property p₁ (file_checks L 3 interface i₂ (file_checks L 4 property p₂ (rest cs)))))) Passed
    → (b ≡ false) × OtherSide L i₁ p₁ × OtherSide L i₂ p₂ × Settles rest Passed
sides_known L i₁ p₁ i₂ p₂ b rest s =
    let a = whole_known (λ cs. file_checks L 1 interface i₁ (file_checks L 2 property p₁ (file_checks L 3 interface i₂ (file_checks L 4 property p₂ (rest cs))))) 13 b s in
    let c = file_known (λ cs. file_checks L 2 property p₁ (file_checks L 3 interface i₂ (file_checks L 4 property p₂ (rest cs)))) L 1 interface i₁ a.1 in
    let d = file_known (λ cs. file_checks L 3 interface i₂ (file_checks L 4 property p₂ (rest cs))) L 2 property p₁ c.1 in
    let e = file_known (λ cs. file_checks L 4 property p₂ (rest cs)) L 3 interface i₂ d.1 in
    let f = file_known rest L 4 property p₂ e.1 in
    (a.0, record { interface_within = c.0; property_within = d.0 }, record { interface_within = e.0; property_within = f.0 }, f.1)

pub both_known : (L : Limits) (i₁ p₁ i₂ p₂ r : List ℕ) (m store work : ℕ) → Settles (both_first L i₁ p₁ i₂ p₂ r m store work) Passed → Pairable L i₁ p₁ i₂ p₂ r store work
both_known L i₁ p₁ i₂ p₂ r m store work s =
    let from_start : Row = λ cs. whole_check 3 (no_start m) (whole_check 9 (shares (decode_interface i₁) (decode_interface i₂)) (whole_check 10 (unprovided (both_sides i₁ i₂) m) cs)) in
    let a = sides_known L i₁ p₁ i₂ p₂ (short both_store store || short both_work work) (λ cs. file_checks L 5 rules r (from_start cs)) s in
    let b = file_known from_start L 5 rules r a.3 in
    let long = both_long both_store both_work store work a.0 in
    record { store_long = long.0; work_long = long.1; first_side_filed = a.1; second_side_filed = a.2; rules_within = b.0 }

-- both interfaces are accepted, as 9 and 10 ask
pub both_interfaces : (L : Limits) (i₁ p₁ i₂ p₂ : List ℕ) (b : Bool) (rest : Row)
    → Settles (λ cs. whole_check 13 b (file_checks L 1 interface i₁ (file_checks L 2 property p₁ (file_checks L 3 interface i₂ (file_checks L 4 property p₂ (rest cs)))))) Passed
    → InterfaceFile i₁ × InterfaceFile i₂
both_interfaces L i₁ p₁ i₂ p₂ b rest s =
    let a = sides_known L i₁ p₁ i₂ p₂ b rest s in
    (record { limits = L; accepted = a.1.interface_within }, record { limits = L; accepted = a.2.interface_within })

-- ---- 11 of the first model

module _ (L : Limits) (i₁ p₁ i₂ p₂ r : List ℕ) (m : ℕ) (out : List ℕ) where
  abbrev pub M : Graph
  M = gives (first_side i₁ p₁)

  abbrev pub N : Graph
  N = gives (second_side i₂ p₂)

  abbrev pub said : Said
  said = both_said i₁ p₁ i₂ p₂ r m

  abbrev pub on_size : List Check
  on_size = both_last L i₁ p₁ i₂ p₂ r m (length out)

  pub first_large : too_large L M ≡ true → (f : Refusal) → f ≡ refusal_at 11 0 0 → Answers (answered on_size said) out out (refused_answer f)
  first_large b f e =
      answers_refused (answered on_size said) f out
      (whole_refuses 11 (too_large L M || (too_large L N || too_large L (both_graph i₁ p₁ i₂ p₂))) (out_check (length out) said) said (ap (λ (c : Bool). c || (too_large L N || too_large L (both_graph i₁ p₁ i₂ p₂))) b)
      ∙ ap refuses (sym e))

  -- what is left once the first model stands, or whatever graph it is, barred or not
  abbrev pub on_first : Bool → Graph → Outcome
  on_first t X =
      let s = joined_verdict L (t || lacks_entry (decode_interface i₂) N) X N (watch (decode_rules r)) m (length out) in
      answered (whole_check 11 (too_large L N || too_large L (join X N)) (out_check (length out) s)) s

-- ---- a part of a buffer, from some place on

module _ (at : ℕ) (store ys : List ℕ) (h : at ≤ length store) where
  -- what is lent
  pub behind_is : mid_of at (length store - at) store ≡ drop at store
  behind_is = take_all (length store - at) (drop at store) (omega (arith, length-drop at store))

  -- what comes back
  pub behind_kept : take at (put_mid at (length store - at) store ys) ≡ take at store
  behind_kept = take_put at (length store - at) store ys h

  pub behind_put : drop at (put_mid at (length store - at) store ys) ≡ ys
  behind_put =
      let all : length (drop at store) ≤ length store - at = omega (arith, length-drop at store) in
      drop_at (take at store) (ys ++ drop (length store - at) (drop at store)) at (length-take-le at store h)
      ∙ ap (λ (l : List ℕ). ys ++ l) (drop_of_length-le (drop at store) all)
      ∙ append-nil ys
