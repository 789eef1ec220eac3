-- Which numbers each call can be refused by, and with which files, in the published order: one table from document 01. The lines of each call are shown to be its row
-- (`judge_row` .. `compose_row`, beside the calls), so that no line can be left out of a call's definition and of its checks alike.
use Rattle.std.specs.Prelude.{◌≡◌, Bool, true, false, cond, ◌&&◌, List, [], ◌∷◌, ◌++◌, ℕ, suc, leb}
use Rattle.files.specs.Deliveries.{Delivers}
use Rattle.files.specs.Outcome.{Lines, no_lines, line, file_lines, numbered_lines}
use Rattle.files.specs.Refusal.{Kind, graph, property, rules, interface}
use Rattle.files.specs.declared.record.Limits.{Limits}

pub data Call : Type 0 where
  judge compare model join show watch compose assemble judge_deliveries compose_both : Call

-- what a call takes at a position: a file of one of the four kinds, or one of deliveries (02, wish 1)
pub data Takes : Type 0 where
  a : Kind → Takes
  deliveries : Takes

-- ---- the table

-- "Judging takes graph, property; comparing takes two graphs; modelling takes interface, property; joining takes interface and graph of each side; watching takes
-- interface, graph, rules and a start method; the composed verdict takes the known interface and graph, the unwritten side's interface and property, rules and a
-- start method." "Showing takes two graphs and a number."
abbrev pub takes : Call → List Takes
takes judge = a graph ∷ a property ∷ []
takes compare = a graph ∷ a graph ∷ []
takes model = a interface ∷ a property ∷ []
takes join = a interface ∷ a graph ∷ a interface ∷ a graph ∷ []
takes show = a graph ∷ a graph ∷ []
takes watch = a interface ∷ a graph ∷ a rules ∷ []
takes compose = a interface ∷ a graph ∷ a interface ∷ a property ∷ a rules ∷ []
takes assemble = deliveries ∷ []
takes judge_deliveries = deliveries ∷ a property ∷ []
takes compose_both = a interface ∷ a property ∷ a interface ∷ a property ∷ a rules ∷ []

-- "13: work buffer shorter than its length published": joining, showing and assembling are lent none
abbrev pub works : Call → Bool
works judge = true
works compare = true
works model = true
works join = false
works show = false
works watch = true
works compose = true
works assemble = false
works judge_deliveries = true
works compose_both = true

-- what follows the files, number and file. "then the start method's 3; then 9 to 12": 9 for each graph that comes with its interface, then for a shared method where
-- there are two sides; 10 for "watching or composed verdict"; 11 for "model or joined graph"; 12 for each call that has an output. Showing has its own 7 alone. Of
-- deliveries: "14, two deliveries of one method with equal revision, after 8", "11 the result". Of entries: "16, a known graph lacking an entry for a provided method, in
-- composed verdicts, after 9".
abbrev pub follows : Call → List (ℕ × ℕ)
follows judge = (12, 0) ∷ []
follows compare = (12, 0) ∷ []
follows model = (11, 0) ∷ (12, 0) ∷ []
follows join = (9, 2) ∷ (9, 4) ∷ (9, 0) ∷ (11, 0) ∷ (12, 0) ∷ []
follows show = (7, 0) ∷ []
follows watch = (3, 0) ∷ (9, 2) ∷ (10, 0) ∷ (12, 0) ∷ []
follows compose = (3, 0) ∷ (9, 2) ∷ (9, 0) ∷ (16, 0) ∷ (10, 0) ∷ (11, 0) ∷ (12, 0) ∷ []
follows assemble = (14, 0) ∷ (11, 0) ∷ (12, 0) ∷ []
follows judge_deliveries = (14, 0) ∷ (11, 0) ∷ (12, 0) ∷ []
follows compose_both = (3, 0) ∷ (9, 0) ∷ (10, 0) ∷ (11, 0) ∷ (12, 0) ∷ []

-- "each file in argument order, its lowest number among 1..8": the numbers of files from position f on
abbrev pub of_each_file : ℕ → List Takes → List (ℕ × ℕ)
of_each_file f [] = []
of_each_file f (k ∷ ks) = (1, f) ∷ (2, f) ∷ (3, f) ∷ (4, f) ∷ (5, f) ∷ (6, f) ∷ (7, f) ∷ (8, f) ∷ of_each_file (suc f) ks

-- a call's row: "13; then each file ..; then" what follows
abbrev pub row : Call → List (ℕ × ℕ)
row c = cond (works c) ((13, 0) ∷ []) [] ++ (of_each_file 1 (takes c) ++ follows c)

-- ---- the lines of a call

-- number and file of each line
abbrev pub listed : Lines → List (ℕ × ℕ)
listed no_lines = []
listed (line n f A ls) = (n, f) ∷ listed ls

-- the lines 1 to 8 of files
abbrev pub file_part : Lines → Lines
file_part no_lines = no_lines
file_part (line n f A ls) = cond (leb n 8 && leb 1 f) (line n f A (file_part ls)) (file_part ls)

-- those of files of these kinds, from position f on
abbrev pub files_lines : Limits → ℕ → List Takes → List (List ℕ) → Lines
files_lines L f [] ls = no_lines
files_lines L f (k ∷ ks) [] = no_lines
files_lines L f (a k ∷ ks) (l ∷ ls) = file_lines L f k l (files_lines L (suc f) ks ls)
files_lines L f (deliveries ∷ ks) (l ∷ ls) = numbered_lines (Delivers L l) f 1 8 (files_lines L (suc f) ks ls)

-- the lines are the call's row, those of files being what the table of refusals says of each file as the kind that the call takes there
pub record Row (L : Limits) (c : Call) (files : List (List ℕ)) (ls : Lines) : Type 1 where
  pub numbers_are : listed ls ≡ row c
  pub files_are : file_part ls ≡ files_lines L 1 (takes c) files
