-- What a call answers and writes, and how its refusals are ordered: a list of checks in the published order beside the same list as the table words it.
use Rattle.std.specs.Prelude.{◌≡◌, ◌⊎◌, ⊤, Result, Ok, Err, Bool, not, cond, ◌&&◌, ◌||◌, true, List, [], ◌∷◌, ◌++◌, ℕ, zero, suc, ◌≤◌, ◌<◌, eqb, leb, ltb, length, drop, replicate}
use Rattle.std.proofs.Math.Option.{Option, none, some}
use Rattle.files.specs.Basics.Lexical.{before}
use Rattle.files.specs.Basics.First.{whole, Finds}
use Rattle.files.specs.declared.check.FileCounts.{FileCounts}
use Rattle.files.specs.declared.record.Limits.{Limits}
use Rattle.files.specs.declared.refusal.Refusal.{Refusal}
use Rattle.files.specs.declared.view.GraphView.{GraphView}
use Rattle.files.specs.Graph.{Graph, size}
use Rattle.files.specs.Refusal.{Kind, findings}
use Rattle.files.specs.Table.{Applies}
use Rattle.files.specs.Decode.{graph_bytes}
pub mod Calls
pub mod Laws
pub mod Ends
pub mod Counted
pub mod Order
pub mod Meaning

-- "A refusal carries number, file position from 1 and first offending record from 0."
abbrev pub refusal_at : ℕ → ℕ → ℕ → Refusal
refusal_at n f i = record { number = n; file = f; «record» = i }

-- what a check comes to that hands nothing on: it passes, or refuses
abbrev pub Settled : Type 0
Settled = Result ⊤ Refusal

abbrev pub Passed : Settled
Passed = Ok tt

-- what a file's check comes to: accepted, with the nodes among so many records, or refused
abbrev pub Checked : Type 0
Checked = Result FileCounts Refusal

abbrev pub Accepted : ℕ → ℕ → Checked
Accepted n c = Ok (record { nodes = n; records = c })

-- what a call answers that writes a graph: its nodes and edges counted, or a refusal
abbrev pub GraphAnswer : Type 0
GraphAnswer = Result GraphView Refusal

abbrev pub Written : ℕ → ℕ → GraphAnswer
Written n e = Ok (record { nodes = n; edges = e })

-- A verdict: 1 for holds, yes, written, shown and clean, 2 for fails, no and bad; its values; and the bytes of the result.
pub record Said : Type 0 where
  pub verdict : ℕ
  pub values : List ℕ
  pub written : List ℕ

pub data Outcome : Type 0 where
  refuses : Refusal → Outcome
  says : Said → Outcome

-- ---- the answer as numbers

-- verdict 0 is a refusal, with its number; its values are file and record
pub record Answer : Type 0 where
  pub verdict : ℕ
  pub number : ℕ
  pub values : List ℕ

abbrev pub refused_answer : Refusal → Answer
refused_answer r = record { verdict = 0; number = r.number; values = r.file ∷ r.«record» ∷ [] }

abbrev pub verdict_answer : ℕ → List ℕ → Answer
verdict_answer v xs = record { verdict = v; number = 0; values = xs }

abbrev pub answer : Outcome → Answer
answer (refuses r) = refused_answer r
answer (says s) = verdict_answer s.verdict s.values

-- ---- the lent bytes

abbrev pub written_of : Outcome → List ℕ
written_of (refuses r) = []
written_of (says s) = s.written

-- "Output is unchanged after a refusal; after success, bytes past the result are unchanged."
abbrev pub out_after : Outcome → List ℕ → List ℕ
out_after o out = written_of o ++ drop (length (written_of o)) out

-- "Work buffers are all zero after every call except refusal 13, which leaves them."
abbrev pub work_after : Outcome → List ℕ → List ℕ
work_after (refuses r) work = cond (eqb r.number 13) work (replicate (length work) 0)
work_after (says s) work = replicate (length work) 0

-- ---- what a call does, by its outcome: its answer, and what it leaves in the lent bytes

pub record Answers (o : Outcome) (out out' : List ℕ) (a : Answer) : Type 0 where
  pub answer_is : a ≡ answer o
  pub out_is : out' ≡ out_after o out

pub record Does (o : Outcome) (out work out' work' : List ℕ) (a : Answer) : Type 0 where
  pub answers : Answers o out out' a
  pub work_is : work' ≡ work_after o work

-- the same of a call that borrows two work buffers
pub record DoesBoth (o : Outcome) (out store work out' store' work' : List ℕ) (a : Answer) : Type 0 where
  pub answers : Answers o out out' a
  pub store_is : store' ≡ work_after o store
  pub work_is : work' ≡ work_after o work

-- ---- the order of refusals, computed

-- one line of the published order: number, file, and the first record that offends, if any
pub record Check : Type 0 where
  pub number : ℕ
  pub file : ℕ
  pub found : Option ℕ

abbrev pub check : ℕ → ℕ → Option ℕ → Check
check n f m = record { number = n; file = f; found = m }

-- numbers from n on, of file f, one for each finding
abbrev pub numbered : ℕ → ℕ → List (Option ℕ) → List Check → List Check
numbered n f [] cs = cs
numbered n f (m ∷ ms) cs = check n f m ∷ numbered (suc n) f ms cs

-- a file's numbers 1 to 8, before the checks that follow
abbrev pub file_checks : Limits → ℕ → Kind → List ℕ → List Check → List Check
file_checks L f k l cs = numbered 1 f (findings L k l) cs

-- a number of no file in particular: "Record is 0 .. ; file is 0"
abbrev pub whole_check : ℕ → Bool → List Check → List Check
whole_check n b cs = check n 0 (whole b) ∷ cs

abbrev pub or_next : ℕ → ℕ → Option ℕ → Option Refusal → Option Refusal
or_next n f (some i) rest = some (refusal_at n f i)
or_next n f none rest = rest

abbrev pub first_refusal : List Check → Option Refusal
first_refusal [] = none
first_refusal (c ∷ cs) = or_next c.number c.file c.found (first_refusal cs)

abbrev pub unless : Option Refusal → Said → Outcome
unless (some r) s = refuses r
unless none s = says s

-- a call: refused by the first check that finds something, or else the verdict
abbrev pub answered : List Check → Said → Outcome
answered cs s = unless (first_refusal cs) s

-- ---- the order of refusals, as the paper words it

-- lines in the published order: number, file, and at which records it applies
pub data Lines : Type 1 where
  no_lines : Lines
  line : ℕ → ℕ → (ℕ → Type 0) → Lines → Lines

-- k numbers from n on, of file f, by a table that says at which records each applies
abbrev pub numbered_lines : (ℕ → ℕ → Type 0) → ℕ → ℕ → ℕ → Lines → Lines
numbered_lines A f n zero ls = ls
numbered_lines A f n (suc k) ls = line n f (A n) (numbered_lines A f (suc n) k ls)

-- "each file in argument order, its lowest number among 1..8"
abbrev pub file_lines : Limits → ℕ → Kind → List ℕ → Lines → Lines
file_lines L f k l ls = numbered_lines (Applies L k l) f 1 8 ls

abbrev pub whole_line : ℕ → Type 0 → Lines → Lines
whole_line n P ls = line n 0 (λ i. (i ≡ 0) × P) ls

-- n of file f, at record i, comes first: it applies there and at no earlier record, and no line before it applies anywhere
abbrev pub FirstOf : Lines → ℕ → ℕ → ℕ → Type 0
FirstOf no_lines n f i = ⊥
FirstOf (line k g A ls) n f i = ((k ≡ n) × ((g ≡ f) × (A i × ((j : ℕ) → j < i → A j → ⊥)))) ⊎ (((j : ℕ) → A j → ⊥) × FirstOf ls n f i)

-- no line applies
pub NoneOf : Lines → Type 0
NoneOf no_lines = Unit {0}
NoneOf (line k g A ls) = ((j : ℕ) → A j → ⊥) × NoneOf ls

-- each check finds what its line says
pub Matches : List Check → Lines → Type 0
Matches [] no_lines = Unit {0}
Matches [] (line k g A ls) = ⊥
Matches (c ∷ cs) no_lines = ⊥
Matches (c ∷ cs) (line k g A ls) = (c.number ≡ k) × ((c.file ≡ g) × (Finds c.found A × Matches cs ls))

-- ---- the published order

-- "Order: 13; then each file in argument order, its lowest number among 1..8; then the start method's 3; then 9 to 12. .. Within 9, graphs come in argument
-- order before a shared method." A new number is a new entry. (Showing's own 7, of no file, stands where the start method's 3 does.)
pub data Entry : Type 0 where
  of_call : ℕ → Entry
  of_each_file : List ℕ → Entry
  of_graphs_first : ℕ → Entry

abbrev pub published_order : List Entry
published_order =
    of_call 13 ∷ of_each_file (1 ∷ 2 ∷ 3 ∷ 4 ∷ 5 ∷ 6 ∷ 7 ∷ 8 ∷ []) ∷ of_call 3 ∷ of_call 7 ∷ of_call 14 ∷ of_graphs_first 9 ∷ of_call 16 ∷ of_call 10 ∷ of_call 11 ∷ of_call 12 ∷ []

-- where n stands among numbers, or their count
abbrev pub index_of : ℕ → List ℕ → ℕ
index_of n [] = 0
index_of n (m ∷ ms) = cond (eqb n m) 0 (suc (index_of n ms))

-- Where number n of file f stands in an order whose first entry has place k: lists compare by the first place at which they differ. Nowhere, if it has no entry.
abbrev pub place_in : ℕ → List Entry → ℕ → ℕ → List ℕ
place_in k [] n f = []
place_in k (of_call m ∷ es) n f = cond (eqb n m && eqb f 0) (k ∷ 0 ∷ 0 ∷ []) (place_in (suc k) es n f)
place_in k (of_each_file ms ∷ es) n f = cond (not (eqb f 0) && ltb (index_of n ms) (length ms)) (k ∷ f ∷ index_of n ms ∷ []) (place_in (suc k) es n f)
place_in k (of_graphs_first m ∷ es) n f = cond (eqb n m) (k ∷ cond (eqb f 0) 1 0 ∷ f ∷ []) (place_in (suc k) es n f)

-- each line has a place, and stands before the next
abbrev pub ascends_from : List Entry → List ℕ → Lines → Bool
ascends_from es k no_lines = true
ascends_from es k (line n f A ls) = before k (place_in 1 es n f) && ascends_from es (place_in 1 es n f) ls

abbrev pub published_by : List Entry → Lines → Bool
published_by es ls = ascends_from es (0 ∷ []) ls

-- the lines of a call stand in the published order
abbrev pub published : Lines → Bool
published ls = published_by published_order ls

-- ---- numbers that several calls share

-- 13: "work buffer shorter than its length published"
abbrev pub short : ℕ → ℕ → Bool
short room work = ltb work room

-- "start method not 1..8"
abbrev pub no_start : ℕ → Bool
no_start m = not (leb 1 m && leb m 8)

abbrev pub NoStart : ℕ → Type 0
NoStart m = ((1 ≤ m) × (m ≤ 8)) → ⊥

-- 12: "output shorter than the whole result"
abbrev pub out_check : ℕ → Said → List Check
out_check out s = whole_check 12 (ltb out (length s.written)) []

abbrev pub out_line : ℕ → Said → Lines
out_line out s = whole_line 12 (out < length s.written) no_lines

-- 11: "model or joined graph would pass" the limits on nodes and edges
abbrev pub too_large : Limits → Graph → Bool
too_large L G = ltb L.nodes (size G) || ltb L.edges (length G.edges)

abbrev pub TooLarge : Limits → Graph → Type 0
TooLarge L G = (L.nodes < size G) ⊎ (L.edges < length G.edges)

-- a graph written: its bytes, with its nodes and edges counted, and further values
abbrev pub graph_said : Graph → List ℕ → Said
graph_said G more = record { verdict = 1; values = size G ∷ length G.edges ∷ more; written = graph_bytes G }

-- a number of file f, at the first record that a scan finds
abbrev pub scan_check : ℕ → ℕ → Option ℕ → List Check → List Check
scan_check n f m cs = check n f m ∷ cs
