-- For the code that reads off the largest simulation: whether an entry is related to a node, and the relation's lines, in two accepted files.
use mathlib.Core.Path.{◌≡◌, sym, ap, subst, ◌∙◌}
use mathlib.Core.Bool.{Bool, true, false, not, ◌&&◌}
use mathlib.Core.List.{List, ◌++◌}
use Prim.Native.Nat.{ℕ, ◌+◌, ◌*◌, ◌≤◌, ◌<◌}
use native.Mathlib.Numerals.{add-one}
use native.Mathlib.Omega.{arith}
use lib.Dec.{T, ltb, ltb→lt, lt→ltb, not_T}
use lib.ListN.{length, drop}
use Rattle.files.specs.Basics.Tests.{and_l, and_r, and_i}
use Rattle.files.specs.Cells.{has_bit, put_at}
use Rattle.files.specs.Decode.{decode_graph}
use Rattle.files.specs.Graph.{Graph, node}
use Rattle.files.specs.Line.{relation_line}
use Rattle.std.specs.Prelude.{Option, None, Some, IfSome, MatchOption}
use Rattle.std.specs.Option.{unwrap_or}
use Rattle.files.specs.Places.{max_nodes}
use Rattle.judging.specs.declared.sizes.Sizes.{Sizes}
use Rattle.judging.specs.Refinement.{Both, Chosen, Settled}
use Rattle.judging.specs.Refinement.Cover.{settled_e, lines_of, lines_more, lines_all}
use Rattle.judging.specs.Refinement.Files.{first_size, second_size}
use Rattle.judging.specs.Simulation.{covered, uncovered, related, relation_bytes}
use Rattle.judging.specs.Simulation.Laws.{meets, misses, covered_at, covered_none, uncovered_at, uncovered_none}

module _ (s : Sizes) (f g : List ℕ) (both : Both s f g) where
  abbrev G : Graph
  G = decode_graph f

  abbrev H : Graph
  H = decode_graph g

  -- ---- the lowest uncovered entry

  pub lowest_uncovered : (r : Option ℕ) → MatchOption r ((v : ℕ) → 0 ≤ v → v < s.first.nodes → T (not (misses G H v))) (λ v. (0 ≤ v) × (v < s.first.nodes) × T (misses G H v) × ((u : ℕ) → 0 ≤ u → u < v → T (not (misses G H u)))) → (unwrap_or r s.first.nodes ≡ uncovered G H) × IfSome r (λ v. v < s.first.nodes)
  lowest_uncovered None h = (sym (first_size s f g both) ∙ sym (uncovered_none G H (λ v l. h v (omega arith) (omega (arith, l, first_size s f g both)))), tt)
  lowest_uncovered (Some v) h = (sym (uncovered_at G H v (omega (arith, h.1, first_size s f g both)) (λ u l. h.3 u (omega arith) l) h.2), h.1)

  module _ (w : List ℕ) (found : Settled G H w) where
    -- ---- whether an entry is related to a node, by a row of the entries

    abbrev entry : ℕ → Bool
    entry h = (node H h).entry

    pub covered_by : (c : List ℕ) → Chosen entry s.second.nodes c → (v : ℕ) → v < s.first.nodes → (t : Bool)
        → (T t → (h : ℕ) × (h < max_nodes) × T (has_bit c 0 h) × T (has_bit w (32 * v) h)) → (T (not t) → (h : ℕ) → h < max_nodes → T (has_bit c 0 h) → T (has_bit w (32 * v) h) → ⊥) → t ≡ covered G H v
    covered_by c chosen v is_node true some no_other =
        let a = some tt in
        let is : T (entry a.0 && ltb a.0 s.second.nodes) = subst T (chosen a.0 a.1) a.2 in
        let below : a.0 < s.second.nodes = ltb→lt a.0 s.second.nodes (and_r (entry a.0) (ltb a.0 s.second.nodes) is) in
        let kept : T (related G H v a.0) = subst T (settled_e G H w found v a.0 (omega (arith, is_node, first_size s f g both)) a.1) a.3 in
        sym (covered_at G H v a.0 (omega (arith, below, second_size s f g both)) (and_i (entry a.0) (related G H v a.0) (and_l (entry a.0) (ltb a.0 s.second.nodes) is) kept))
    covered_by c chosen v is_node false some no_other = sym (covered_none G H v (λ h l. not_T (meets G H v h) (λ m.
        let below : h < s.second.nodes = omega (arith, l, second_size s f g both) in
        let few : h < max_nodes = omega (arith, below, both.second_held.few_nodes) in
        no_other tt h few
        (subst T (sym (chosen h few)) (and_i (entry h) (ltb h s.second.nodes) (and_l (entry h) (related G H v h) m) (lt→ltb h s.second.nodes below)))
        (subst T (sym (settled_e G H w found v h (omega (arith, is_node, first_size s f g both)) few)) (and_r (entry h) (related G H v h) m)))))

    -- ---- the relation's lines

    pub line_on : (out₀ out out' : List ℕ) (v : ℕ) → v < s.first.nodes → out ≡ put_at out₀ 0 (lines_of G H v) → out' ≡ put_at out (32 * v) (relation_line (has_bit w (32 * v)))
        → out' ≡ put_at out₀ 0 (lines_of G H (v + 1))
    line_on out₀ out out' v h e d =
        d
        ∙ ap (λ (o : List ℕ). put_at o (32 * v) (relation_line (has_bit w (32 * v)))) e
        ∙ lines_more G H w out₀ v found (omega (arith, h, first_size s f g both))
        ∙ ap (λ (k : ℕ). put_at out₀ 0 (lines_of G H k)) (sym (add-one v))

    pub line_end : (out₀ out : List ℕ) (v : ℕ) → v ≤ s.first.nodes → s.first.nodes ≤ v → out ≡ put_at out₀ 0 (lines_of G H v)
        → out ≡ relation_bytes G H ++ drop (length (relation_bytes G H)) out₀
    line_end out₀ out v a b e = e ∙ lines_all G H out₀ v (omega (arith, a, b, first_size s f g both))
