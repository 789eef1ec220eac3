-- Joining as the code comes to it: what its checks tell; then a joined graph that is too large, one that does not fit, and one that is written.
use Rattle.std.specs.Prelude.{◌≡◌, refl, true, false, List, [], ◌∷◌, ℕ, ◌+◌, ◌*◌, ◌≤◌, ◌<◌, length}
use Rattle.std.proofs.Common.{sym, ap₂, subst}
use Rattle.std.specs.Int.Bits.{bit_or}
use Rattle.files.specs.Access.{InterfaceFile}
use Rattle.files.specs.Cells.{put_at}
use Rattle.files.specs.Decode.{decode_graph, decode_interface, graph_bytes}
use Rattle.files.specs.Graph.{Graph}
use Rattle.files.specs.Interface.{Interface}
use Rattle.files.specs.Outcome.{Said, Answers, refused_answer, verdict_answer, Check, whole_check, scan_check, file_checks, answered, refusal_at, Passed}
use Rattle.files.specs.Outcome.Counted as counted
use Rattle.files.specs.Places.{record_len}
use Rattle.files.specs.Refusal.{graph, interface}
use Rattle.files.specs.Settling.{Row, Settles}
use Rattle.files.specs.Settling.Laws.{file_known}
use Rattle.files.specs.Sides.{first_foreign, shares}
use Rattle.files.specs.declared.record.Limits.{Limits}
use Rattle.files.specs.declared.refusal.Refusal.{Refusal}
use Rattle.judging.specs.Judge.{GraphWithin}
use Rattle.judging.specs.Refinement.{Both}
use Rattle.judging.specs.declared.sizes.Sizes.{Sizes}
use Rattle.files.specs.Join.{join}
use Rattle.runs.specs.Joining.{joined, join_said, join_first, from_size}
use Rattle.runs.specs.Joining.Sizes.{passes_limits, nodes_joined, edges_joined}

-- ---- the checks before the joined graph

pub joined_is : (L : Limits) (i1 g1 i2 g2 : List ℕ) (out : ℕ)
    → joined L i1 g1 i2 g2 out ≡ answered (join_first L i1 g1 i2 g2 (from_size L i1 g1 i2 g2 out)) (join_said L i1 g1 i2 g2 out)
unfolding joined
joined_is L i1 g1 i2 g2 out = refl

-- where they pass, the four files are accepted
pub record Joinable (L : Limits) (i1 g1 i2 g2 : List ℕ) : Type 0 where
  pub first_interface : InterfaceFile i1
  pub first_within : GraphWithin L g1
  pub second_interface : InterfaceFile i2
  pub second_within : GraphWithin L g2

-- .. whatever follows the files
pub files_known : (L : Limits) (i1 g1 i2 g2 : List ℕ) (rest : Row)
    → Settles (λ cs. file_checks L 1 interface i1 (file_checks L 2 graph g1 (file_checks L 3 interface i2 (file_checks L 4 graph g2 (rest cs))))) Passed
    → Joinable L i1 g1 i2 g2
files_known L i1 g1 i2 g2 rest s =
    let a = file_known (λ cs. file_checks L 2 graph g1 (file_checks L 3 interface i2 (file_checks L 4 graph g2 (rest cs)))) L 1 interface i1 s in
    let b = file_known (λ cs. file_checks L 3 interface i2 (file_checks L 4 graph g2 (rest cs))) L 2 graph g1 a.1 in
    let c = file_known (λ cs. file_checks L 4 graph g2 (rest cs)) L 3 interface i2 b.1 in
    let d = file_known rest L 4 graph g2 c.1 in
    record {
      first_interface = record { limits = L; accepted = a.0 };
      first_within = b.0;
      second_interface = record { limits = L; accepted = c.0 };
      second_within = d.0;
    }

pub join_known : (L : Limits) (i1 g1 i2 g2 : List ℕ) → Settles (join_first L i1 g1 i2 g2) Passed → Joinable L i1 g1 i2 g2
join_known L i1 g1 i2 g2 =
    files_known L i1 g1 i2 g2
    (λ cs. scan_check 9 2 (first_foreign (decode_interface i1) g1) (scan_check 9 4 (first_foreign (decode_interface i2) g2)
    (whole_check 9 (shares (decode_interface i1) (decode_interface i2)) cs)))

module _ (L : Limits) (i1 g1 i2 g2 out : List ℕ) where
  abbrev I : Interface
  I = decode_interface i1

  abbrev J : Interface
  J = decode_interface i2

  abbrev said : Said
  said = join_said L i1 g1 i2 g2 (length out)

  abbrev on_size : List Check
  on_size = from_size L i1 g1 i2 g2 (length out)

  module _ (s : Sizes) (both : Both s g1 g2) where
    -- ---- 11, 12 and the joined graph

    abbrev whole : Graph
    whole = join (decode_graph g1) (decode_graph g2)

    abbrev both_bytes : List ℕ
    both_bytes = bit_or I.provided J.provided ∷ bit_or I.required J.required ∷ []

    pub large_refused : passes_limits L s ≡ true → (r : Refusal) → r ≡ refusal_at 11 0 0 → Answers (answered on_size said) out out (refused_answer r)
    large_refused = counted.large_refused L whole (nodes_joined s g1 g2 both) (edges_joined s g1 g2 both) both_bytes out

    module _ (within : passes_limits L s ≡ false) where
      pub short_refused : length out < record_len * (s.first.nodes + s.second.nodes + (s.first.edges + s.second.edges)) → (r : Refusal) → r ≡ refusal_at 12 0 0 → Answers (answered on_size said) out out (refused_answer r)
      short_refused = counted.short_refused L whole (nodes_joined s g1 g2 both) (edges_joined s g1 g2 both) both_bytes out within

      pub join_written : record_len * (s.first.nodes + s.second.nodes + (s.first.edges + s.second.edges)) ≤ length out → (out' : List ℕ) → out' ≡ put_at out 0 (graph_bytes whole) → (p p₂ q q₂ : ℕ)
          → p ≡ I.provided → p₂ ≡ J.provided → q ≡ I.required → q₂ ≡ J.required
          → Answers (answered on_size said) out out' (verdict_answer 1 ((s.first.nodes + s.second.nodes) ∷ (s.first.edges + s.second.edges) ∷ bit_or p p₂ ∷ bit_or q q₂ ∷ []))
      join_written h out' e p p₂ q q₂ a b c d =
          subst (λ (l : List ℕ). Answers (answered on_size said) out out' (verdict_answer 1 ((s.first.nodes + s.second.nodes) ∷ (s.first.edges + s.second.edges) ∷ l)))
          (ap₂ (λ (x y : ℕ). x ∷ y ∷ []) (ap₂ bit_or (sym a) (sym b)) (ap₂ bit_or (sym c) (sym d)))
          (counted.graph_written L whole (nodes_joined s g1 g2 both) (edges_joined s g1 g2 both) both_bytes out within h out' e)
