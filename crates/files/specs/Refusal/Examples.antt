-- Examples of the refusal table, computed. Assumes nothing.
use Rattle.std.specs.Prelude.{◌≡◌, refl, List, [], ◌∷◌, ◌++◌, ℕ, zero, suc}
use Rattle.std.proofs.Math.Option.{none, some}
use Rattle.files.specs.Limits.{desk}
use Rattle.files.specs.Refusal.{graph, property, rules, interface, findings, refusal}
use Rattle.files.specs.declared.record.Limits.{Limits}
use Rattle.files.specs.Course.{one_one_file, one_none_file, p1_file, or_file, false_file, return_file, box_file, entry_file, call_file, returning_file, cycle_file, loop_file, return_rule_file}

abbrev rec6 : ℕ → ℕ → ℕ → ℕ → ℕ → ℕ → List ℕ
rec6 a b c d e f = a ∷ b ∷ c ∷ d ∷ e ∷ f ∷ []

abbrev nd : ℕ → List ℕ
nd m = rec6 1 m 0 0 0 0

abbrev ed : ℕ → ℕ → ℕ → List ℕ
ed a b c = rec6 2 a b c 0 0

abbrev times : ℕ → List ℕ → List ℕ
times zero l = []
times (suc n) l = l ++ times n l

-- 1: 5 bytes
pub one_length : refusal desk graph (1 ∷ 1 ∷ 0 ∷ 0 ∷ 0 ∷ []) ≡ some (1, 0)
unfolding refusal findings
one_length = refl

-- 2: a node after an edge; a second interface record; a lower number at a later record
pub two_kind : (refusal desk graph (nd 1 ++ ed 0 0 0 ++ nd 1) ∷ refusal desk interface (rec6 5 1 1 0 0 0 ++ rec6 5 1 1 0 0 0)
    ∷ refusal desk graph (nd 9 ++ ed 0 0 0 ++ nd 1) ∷ []) ≡ some (2, 2) ∷ some (2, 1) ∷ some (2, 2) ∷ []
unfolding refusal findings
two_kind = refl

-- 3: 1 9 0 0 0 0; unused byte
pub three_range : (refusal desk graph (nd 9) ∷ refusal desk graph (nd 1 ++ rec6 2 0 0 0 0 1) ∷ refusal desk property (rec6 3 1 0 1 0 0) ∷ []) ≡ some (3, 0) ∷ some (3, 1) ∷ some (3, 0) ∷ []
unfolding refusal findings
three_range = refl

-- operator 10: b and the last two bytes are 0, before 7; there is no operator 11; a is a row
pub three_any : (refusal desk property (rec6 3 10 0 1 0 0) ∷ refusal desk property (rec6 3 10 0 0 1 0) ∷ refusal desk property (rec6 3 10 0 0 0 1)
    ∷ refusal desk property (rec6 3 11 0 0 0 0) ∷ refusal desk property (rec6 3 10 255 1 0 0) ∷ refusal desk property (rec6 3 10 1 0 0 0) ∷ refusal desk property (rec6 3 10 255 0 0 0)
    ∷ refusal desk property (rec6 3 10 0 0 0 0) ∷ refusal desk property (rec6 3 10 1 0 0 0 ++ rec6 3 1 0 0 0 0) ∷ refusal desk property (times 13 (rec6 3 10 0 0 0 0)) ∷ [])
    ≡ some (3, 0) ∷ some (3, 0) ∷ some (3, 0) ∷ some (3, 0) ∷ some (3, 0) ∷ some (7, 0) ∷ some (7, 0) ∷ none ∷ none ∷ none ∷ []
unfolding refusal findings
three_any = refl

-- 4: one edge twice; two rules for one event
pub four_order : (refusal desk graph (nd 1 ++ ed 0 0 0 ++ ed 0 0 0) ∷ refusal desk rules (rec6 4 0 1 1 1 7 ++ rec6 4 0 1 1 1 6) ∷ []) ≡ some (4, 2) ∷ some (4, 1) ∷ []
unfolding refusal findings
four_order = refl

-- 5: 33 rows, 13 operator-8 rows; one fewer is accepted (256 and 257 nodes, 4,096 and 4,097 edges: Decode/LimitExamples)
pub five_limit : (refusal desk property (times 32 (rec6 3 1 0 0 0 0)) ∷ refusal desk property (times 33 (rec6 3 1 0 0 0 0))
    ∷ refusal desk property (times 12 (rec6 3 8 0 0 0 0)) ∷ refusal desk property (times 13 (rec6 3 8 0 0 0 0)) ∷ []) ≡ none ∷ some (5, 0) ∷ none ∷ some (5, 0) ∷ []
unfolding refusal findings
five_limit = refl

-- nodes and edges under smaller limits, computed
abbrev two_one : Limits
two_one = record { nodes = 2; edges = 1; rows = 1; ors = 0 }

pub five_nodes : (refusal two_one graph (times 2 (nd 1)) ∷ refusal two_one graph (times 3 (nd 1)) ∷ refusal two_one graph (nd 1 ++ ed 0 0 0)
    ∷ refusal two_one graph (nd 1 ++ ed 0 0 0 ++ ed 0 1 0) ∷ []) ≡ none ∷ some (5, 0) ∷ none ∷ some (5, 0) ∷ []
unfolding refusal findings
five_nodes = refl

-- 6: an empty property, an empty interface file; an empty graph and an empty rule file are accepted
pub six_empty : (refusal desk property [] ∷ refusal desk interface [] ∷ refusal desk graph [] ∷ refusal desk rules [] ∷ []) ≡ some (6, 0) ∷ some (6, 0) ∷ none ∷ none ∷ []
unfolding refusal findings
six_empty = refl

-- 7: edge to node 1 of one node; an edge in a file without nodes; row 200 of one
pub seven_past : (refusal desk graph (nd 1 ++ ed 0 0 1) ∷ refusal desk graph (ed 0 0 0) ∷ refusal desk property (rec6 3 7 0 200 0 0) ∷ []) ≡ some (7, 1) ∷ some (7, 0) ∷ some (7, 0) ∷ []
unfolding refusal findings
seven_past = refl

-- 8: 2 0 0 1 0 0, nodes in methods 1 and 2
pub eight_methods : refusal desk graph (nd 1 ++ nd 2 ++ ed 0 0 1) ≡ some (8, 2)
unfolding refusal findings
eight_methods = refl

-- ---- the files of the course examples are accepted

pub empty_accepted : refusal desk graph [] ≡ none
unfolding refusal findings
empty_accepted = refl

pub entry_accepted : refusal desk graph entry_file ≡ none
unfolding refusal findings
entry_accepted = refl

pub call_accepted : refusal desk graph call_file ≡ none
unfolding refusal findings
call_accepted = refl

pub returning_accepted : refusal desk graph returning_file ≡ none
unfolding refusal findings
returning_accepted = refl

pub cycle_accepted : refusal desk graph cycle_file ≡ none
unfolding refusal findings
cycle_accepted = refl

pub loop_accepted : refusal desk graph loop_file ≡ none
unfolding refusal findings
loop_accepted = refl

pub p1_accepted : refusal desk property p1_file ≡ none
unfolding refusal findings
p1_accepted = refl

pub or_accepted : refusal desk property or_file ≡ none
unfolding refusal findings
or_accepted = refl

pub false_accepted : refusal desk property false_file ≡ none
unfolding refusal findings
false_accepted = refl

pub return_accepted : refusal desk property return_file ≡ none
unfolding refusal findings
return_accepted = refl

pub box_zero_accepted : refusal desk property (box_file 0) ≡ none
unfolding refusal findings
box_zero_accepted = refl

pub box_one_accepted : refusal desk property (box_file 1) ≡ none
unfolding refusal findings
box_one_accepted = refl

pub one_one_accepted : refusal desk interface one_one_file ≡ none
unfolding refusal findings
one_one_accepted = refl

pub one_none_accepted : refusal desk interface one_none_file ≡ none
unfolding refusal findings
one_none_accepted = refl

pub rules_accepted : refusal desk rules return_rule_file ≡ none
unfolding refusal findings
rules_accepted = refl
