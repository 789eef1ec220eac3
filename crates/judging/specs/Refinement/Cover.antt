-- Laws of the largest simulation once it stands in a lent buffer: what a bit says, what a row of bits says, and the lines written from the rows, one more at a time.
use Rattle.std.specs.Prelude.{◌≡◌, Bool, List, [], ◌++◌, ℕ, suc, ◌*◌, ◌<◌, length, drop}
use Rattle.std.proofs.Common.{sym, ap, ap₂, ◌∙◌, arith}
use Rattle.files.specs.Basics.Binary.{value}
use Rattle.files.specs.Basics.Lists.{each, span, each_more, length_each}
use Rattle.files.specs.Basics.Tables.{table, length_span}
use Rattle.files.specs.Cells.{has_bit, put_at}
use Rattle.files.specs.Cells.Laws.{put_at_is, put_front}
use Rattle.files.specs.Graph.{Graph, size}
use Rattle.files.specs.Line.{relation_line}
use Rattle.files.specs.Line.Laws.{line_size}
use Rattle.files.specs.Places.{max_nodes}
use Rattle.judging.specs.Refinement.{rel, Settled}
use Rattle.judging.specs.Sheets.Queue.{table_same}
use Rattle.judging.specs.Sheets.Walk.{put_next}
use Rattle.judging.specs.Simulation.{related, relation_bytes}
use Rattle.judging.specs.Simulation.Laws.{relation_lines}

-- ---- rows of bits

-- the line of a test asks below 256 only
line_same : (u v : ℕ → Bool) → ((h : ℕ) → h < max_nodes → u h ≡ v h) → relation_line u ≡ relation_line v
line_same u v e = table_same (λ k. value (table u (8 * k) 8)) (λ k. value (table v (8 * k) 8)) 0 32 (λ k a b. ap value (table_same u v (8 * k) 8 (λ i x y. e i (omega arith))))

-- ---- lines, one after the other

module _ (G H : Graph) where
  pub settled_e : (w : List ℕ) → Settled G H w → (g h : ℕ) → g < size G → h < max_nodes → rel w g h ≡ related G H g h
  unfolding Settled
  settled_e w z = z

  -- the row of a node is its line
  settled_line : (w : List ℕ) → Settled G H w → (g : ℕ) → g < size G → relation_line (has_bit w (32 * g)) ≡ relation_line (related G H g)
  settled_line w z g hg = line_same (has_bit w (32 * g)) (related G H g) (λ h hh. settled_e w z g h hg hh)

  -- the lines of the first n nodes
  abbrev pub lines_of : ℕ → List ℕ
  lines_of n = each (λ (g : ℕ). relation_line (related G H g)) (span 0 n)

  lines_length : (n : ℕ) → length (lines_of n) ≡ 32 * n
  lines_length n = length_each 32 (λ (g : ℕ). relation_line (related G H g)) (λ g. line_size (related G H g)) (span 0 n) ∙ ap (λ (k : ℕ). 32 * k) (length_span 0 n)

  pub lines_none : (out : List ℕ) → out ≡ put_at out 0 (lines_of 0)
  lines_none out = sym (put_at_is out 0 [])

  -- one line more
  pub lines_more : (w out : List ℕ) (n : ℕ) → Settled G H w → n < size G → put_at (put_at out 0 (lines_of n)) (32 * n) (relation_line (has_bit w (32 * n))) ≡ put_at out 0 (lines_of (suc n))
  lines_more w out n z h =
      ap₂ (λ (k : ℕ) (l : List ℕ). put_at (put_at out 0 (lines_of n)) k l) (sym (lines_length n)) (settled_line w z n h)
      ∙ put_next out (lines_of n) (relation_line (related G H n))
      ∙ ap (put_at out 0) (sym (each_more (λ (g : ℕ). relation_line (related G H g)) n))

  -- all lines are the relation's bytes
  pub lines_all : (out : List ℕ) (n : ℕ) → n ≡ size G → put_at out 0 (lines_of n) ≡ relation_bytes G H ++ drop (length (relation_bytes G H)) out
  lines_all out n e =
      let b : lines_of n ≡ relation_bytes G H = ap lines_of e ∙ sym (relation_lines G H) in
      ap (put_at out 0) b ∙ put_front out (relation_bytes G H)
