-- Laws of what the search starts from: a bit put into one of many rows, the rows of kinds and of neighbours as they are filled, and the relation at first.
use Rattle.std.specs.Prelude.{◌≡◌, refl, ◌⊎◌, Bool, true, false, ◌&&◌, ℕ, ◌+◌, ◌*◌, ◌/◌, ◌≤◌, ◌<◌, T, eqb, ltb, length, get_or}
use Rattle.std.proofs.Common.{sym, ap, ap₂, subst, ◌∙◌, inl, inr, arith, eqb→eq, eq-eqb, ne_eqb, lt-ltb, le-ltb}
use mathlib.Core.List.{List, Memᴰ}
use Rattle.std.proofs.Math.Decide.{ℕ_discrete, dec_lt}
use Rattle.files.specs.Basics.Lists.{index_i, index_e}
use Rattle.files.specs.Basics.Tests.{and_l, and_r, and_i, any_i, any_e, same_test, one, eq_eqb as T_eqb}
use Rattle.files.specs.Cells.{has_bit, put_bit}
use Rattle.files.specs.Cells.Laws.{bit_byte, bit_same, bit_other, bit_outside, length_put_bit}
use Rattle.files.specs.Graph.{Graph, Node, Edge, node, no_edge}
use Rattle.files.specs.Places.{line_bytes, max_nodes}
use Rattle.judging.specs.Chains.{Outside}
use Rattle.judging.specs.Places.{heads_base, kinds_base, neighbours_base, neighbours_end}
use Rattle.judging.specs.Refinement.{kind, of_kind, edge, neighbour, follows, comes, leads_into, leads_to, Reaches, Leads, KindRows, Neighbours}
use Rattle.judging.specs.Simulation.{alike}
use Rattle.judging.specs.Simulation.Laws.{alike_e, alike_i}

-- ---- a bit put into a row

-- another row keeps its bits
pub put_apart : (w : List ℕ) (b h c k : ℕ) → h < max_nodes → k < max_nodes → (b + 32 ≤ c) ⊎ (c + 32 ≤ b) → has_bit (put_bit w b h) c k ≡ has_bit w c k
put_apart w b h c k a d (inl l) = bit_byte (put_bit w b h) w c c k (bit_outside w b h (c + k / 8) (λ e. omega arith))
put_apart w b h c k a d (inr l) = bit_byte (put_bit w b h) w c c k (bit_outside w b h (c + k / 8) (λ e. omega arith))

-- bytes outside the rows keep as well
pub put_beside : (w₀ w w' : List ℕ) (b h lo hi : ℕ) → w' ≡ put_bit w b h → lo ≤ b → b + h / 8 < hi → Outside lo hi w₀ w → Outside lo hi w₀ w'
put_beside w₀ w w' b h lo hi d a c o q (inl l) = ap (λ (v : List ℕ). get_or v q 0) d ∙ bit_outside w b h q (λ e. omega arith) ∙ o q (inl l)
put_beside w₀ w w' b h lo hi d a c o q (inr l) = ap (λ (v : List ℕ). get_or v q 0) d ∙ bit_outside w b h q (λ e. omega arith) ∙ o q (inr l)

-- ---- kinds

one_more : (n m : ℕ) → (n ≡ m → ⊥) → ltb n (m + 1) ≡ ltb n m
one_more n m f = go (dec_lt n m)
  where
    go : Dec (n < m) → ltb n (m + 1) ≡ ltb n m
    go (yes h) = lt-ltb n (m + 1) (omega arith) ∙ sym (lt-ltb n m h)
    go (no h) = le-ltb n (m + 1) (omega arith) ∙ sym (le-ltb n m (omega arith))

pub kinds_none : (H : Graph) (w : List ℕ) → ((k h : ℕ) → k < 18 → h < max_nodes → of_kind w k h ≡ false) → KindRows H 0 w
kinds_none H w z k h a b = z k h a b ∙ sym (ap (λ (t : Bool). t && eqb (kind (node H h)) k) (le-ltb h 0 (omega arith)))

pub kinds_more : (H : Graph) (n : ℕ) (w w' : List ℕ) (k : ℕ) → n < max_nodes → k ≡ kind (node H n) → k < 18 → heads_base ≤ length w → w' ≡ put_bit w (kinds_base + line_bytes * k) n → KindRows H n w → KindRows H (n + 1) w'
kinds_more H n w w' k few is low room put x j h a b = ap (λ (v : List ℕ). of_kind v j h) put ∙ go (ℕ_discrete k j) (ℕ_discrete n h)
  where
    go : Dec (k ≡ j) → Dec (n ≡ h) → of_kind (put_bit w (kinds_base + line_bytes * k) n) j h ≡ (ltb h (n + 1) && eqb (kind (node H h)) j)
    go (yes e) (yes d) =
        subst (λ (y : ℕ). of_kind (put_bit w (kinds_base + line_bytes * k) n) y h ≡ (ltb h (n + 1) && eqb (kind (node H h)) y)) e
        (subst (λ (y : ℕ). of_kind (put_bit w (kinds_base + line_bytes * k) n) k y ≡ (ltb y (n + 1) && eqb (kind (node H y)) k)) d
        (bit_same w (kinds_base + line_bytes * k) n (omega arith) ∙ sym (ap₂ ◌&&◌ (lt-ltb n (n + 1) (omega arith)) (eq-eqb (kind (node H n)) k (sym is)))))
    go (yes e) (no f) =
        subst (λ (y : ℕ). of_kind (put_bit w (kinds_base + line_bytes * k) n) y h ≡ of_kind w y h) e (bit_other w (kinds_base + line_bytes * k) n h f) ∙ x j h a b ∙ ap (λ (t : Bool). t && eqb (kind (node H h)) j) (sym (one_more h n (λ d. f (sym d))))
    go (no f) (no g) = put_apart w (kinds_base + line_bytes * k) n (kinds_base + line_bytes * j) h few b (side (dec_lt k j)) ∙ x j h a b ∙ ap (λ (t : Bool). t && eqb (kind (node H h)) j) (sym (one_more h n (λ d. g (sym d))))
      where
        side : Dec (k < j) → (kinds_base + line_bytes * k + line_bytes ≤ kinds_base + line_bytes * j) ⊎ (kinds_base + line_bytes * j + line_bytes ≤ kinds_base + line_bytes * k)
        side (yes l) = inl (omega arith)
        side (no l) = inr (omega arith)
    go (no f) (yes d) = put_apart w (kinds_base + line_bytes * k) n (kinds_base + line_bytes * j) h few b (side (dec_lt k j)) ∙ x j h a b ∙ both_none (ltb h n) (ltb h (n + 1)) (eqb (kind (node H h)) j) (ne_eqb (kind (node H h)) j (λ e. f (is ∙ ap (λ (y : ℕ). kind (node H y)) d ∙ e)))
      where
        side : Dec (k < j) → (kinds_base + line_bytes * k + line_bytes ≤ kinds_base + line_bytes * j) ⊎ (kinds_base + line_bytes * j + line_bytes ≤ kinds_base + line_bytes * k)
        side (yes l) = inl (omega arith)
        side (no l) = inr (omega arith)

        both_none : (p q t : Bool) → t ≡ false → p && t ≡ q && t
        both_none true true t e = refl
        both_none true false t e = e
        both_none false true t e = sym e
        both_none false false t e = refl

-- nodes of one kind agree
kind_agrees : (a b : Node) → kind b ≡ kind a → T (alike a b)
kind_agrees a b e = alike_i a b (omega (arith, e, flags a b)) (flag a.ret b.ret (omega (arith, e, flags a b)))
  where
    flags : (a b : Node) → (one a.ret ≤ 1) × (one b.ret ≤ 1)
    flags a b = (low a.ret, low b.ret)
      where
        low : (b : Bool) → one b ≤ 1
        low true = omega arith
        low false = omega arith

    flag : (x y : Bool) → one y ≡ one x → y ≡ x
    flag true true e = refl
    flag true false e = absurd (omega arith)
    flag false true e = absurd (omega arith)
    flag false false e = refl

pub kind_is : (a b : Node) → eqb (kind b) (kind a) ≡ alike a b
kind_is a b = same_test (eqb (kind b) (kind a)) (alike a b) (λ t. kind_agrees a b (eqb→eq (kind b) (kind a) t)) (λ t. let e = alike_e a b t in T_eqb (kind b) (kind a) (ap₂ (λ (m : ℕ) (r : Bool). 2 * m + one r) e.0 e.1))

-- ---- neighbours

abbrev leads : ℕ → ℕ → ℕ → Edge → Bool
leads h l g d = eqb d.to h && (eqb d.label l && eqb d.from g)

pub leads_into_i : (H : Graph) (h l g : ℕ) → Reaches H (λ (t : ℕ). t ≡ h) g l → T (leads_into H h l g)
unfolding leads_into
leads_into_i H h l g r =
    let d = edge H r.0 in
    any_i (leads h l g) H.edges d (index_e no_edge H.edges r.0 r.1)
    (and_i (eqb d.to h) (eqb d.label l && eqb d.from g) (T_eqb d.to h r.4) (and_i (eqb d.label l) (eqb d.from g) (T_eqb d.label l r.3) (T_eqb d.from g r.2)))

pub leads_into_e : (H : Graph) (h l g : ℕ) → T (leads_into H h l g) → Reaches H (λ (t : ℕ). t ≡ h) g l
unfolding leads_into
leads_into_e H h l g t = go (any_e (leads h l g) H.edges t)
  where
    go : (d : Edge) × Memᴰ d H.edges × T (leads h l g d) → Reaches H (λ (t : ℕ). t ≡ h) g l
    go a =
        let i = index_i no_edge H.edges a.0 a.1 in
        let d = edge H i.0 in
        let s : T (leads h l g d) = subst (λ (z : Edge). T (leads h l g z)) (sym i.2) a.2 in
        let r = and_r (eqb d.to h) (eqb d.label l && eqb d.from g) s in (
          i.0,
          i.1,
          eqb→eq d.from g (and_r (eqb d.label l) (eqb d.from g) r),
          eqb→eq d.label l (and_l (eqb d.label l) (eqb d.from g) r),
          eqb→eq d.to h (and_l (eqb d.to h) (eqb d.label l && eqb d.from g) s),
        )

pub leads_to_i : (H : Graph) (h g : ℕ) → Leads H g h → T (leads_to H h g)
unfolding leads_to
leads_to_i H h g r =
    let d = edge H r.0 in
    any_i (λ (e : Edge). eqb e.to h && eqb e.from g) H.edges d (index_e no_edge H.edges r.0 r.1) (and_i (eqb d.to h) (eqb d.from g) (T_eqb d.to h r.3) (T_eqb d.from g r.2))

leads_to_e : (H : Graph) (h g : ℕ) → T (leads_to H h g) → Leads H g h
unfolding leads_to
leads_to_e H h g t = go (any_e (λ (e : Edge). eqb e.to h && eqb e.from g) H.edges t)
  where
    go : (d : Edge) × Memᴰ d H.edges × T (eqb d.to h && eqb d.from g) → Leads H g h
    go a =
        let i = index_i no_edge H.edges a.0 a.1 in
        let d = edge H i.0 in
        let s : T (eqb d.to h && eqb d.from g) = subst (λ (z : Edge). T (eqb z.to h && eqb z.from g)) (sym i.2) a.2 in
        (i.0, i.1, eqb→eq d.from g (and_r (eqb d.to h) (eqb d.from g) s), eqb→eq d.to h (and_l (eqb d.to h) (eqb d.from g) s))

-- the edges below j are put, and nothing else, for the nodes below n
pub record Putting (H : Graph) (n j : ℕ) (w : List ℕ) : Type 0 where
  pub after_sound : (x l y : ℕ) → x < n → l < 9 → y < max_nodes → T (follows w x l y) → Reaches H (λ (t : ℕ). t ≡ y) x l
  pub before_sound : (y x : ℕ) → y < n → x < max_nodes → T (comes w y x) → Leads H x y
  pub after_full : (d : ℕ) → d < j → T (follows w (edge H d).from (edge H d).label (edge H d).to)
  pub before_full : (d : ℕ) → d < j → T (comes w (edge H d).to (edge H d).from)

pub putting_none : (H : Graph) (n : ℕ) (w : List ℕ) → ((m y : ℕ) → m < 10 * n → y < max_nodes → neighbour w m y ≡ false) → Putting H n 0 w
putting_none H n w f = record {
  after_sound = λ x l y a b c t. absurd (subst T (f (10 * x + l) y (omega arith) c) t);
  before_sound = λ y x a c t. absurd (subst T (f (10 * y + 9) x (omega arith) c) t);
  after_full = λ d h. absurd (omega arith);
  before_full = λ d h. absurd (omega arith);
}

-- a bit of row m, put or there before
module _ (w : List ℕ) (m h : ℕ) (fits : neighbours_base + line_bytes * m + h / 8 < length w) (small : h < max_nodes) where
  abbrev more : List ℕ
  more = put_bit w (neighbours_base + line_bytes * m) h

  side : (k : ℕ) → (m ≡ k → ⊥) → (neighbours_base + line_bytes * m + line_bytes ≤ neighbours_base + line_bytes * k) ⊎ (neighbours_base + line_bytes * k + line_bytes ≤ neighbours_base + line_bytes * m)
  side k f = go (dec_lt m k)
    where
      go : Dec (m < k) → (neighbours_base + line_bytes * m + line_bytes ≤ neighbours_base + line_bytes * k) ⊎ (neighbours_base + line_bytes * k + line_bytes ≤ neighbours_base + line_bytes * m)
      go (yes l) = inl (omega arith)
      go (no l) = inr (omega arith)

  put_e : (k g : ℕ) → g < max_nodes → T (neighbour more k g) → ((m ≡ k) × (h ≡ g)) ⊎ T (neighbour w k g)
  put_e k g b t = go (ℕ_discrete m k) (ℕ_discrete h g)
    where
      go : Dec (m ≡ k) → Dec (h ≡ g) → ((m ≡ k) × (h ≡ g)) ⊎ T (neighbour w k g)
      go (yes e) (yes d) = inl (e, d)
      go (yes e) (no f) = inr (subst (λ (n : ℕ). T (neighbour w n g)) e (subst T (bit_other w (neighbours_base + line_bytes * m) h g f) (subst (λ (n : ℕ). T (neighbour more n g)) (sym e) t)))
      go (no f) d = inr (subst T (put_apart w (neighbours_base + line_bytes * m) h (neighbours_base + line_bytes * k) g small b (side k f)) t)

  put_here : T (neighbour more m h)
  put_here = subst T (sym (bit_same w (neighbours_base + line_bytes * m) h fits)) tt

  put_i : (k g : ℕ) → g < max_nodes → T (neighbour w k g) → T (neighbour more k g)
  put_i k g b t = go (ℕ_discrete m k) (ℕ_discrete h g)
    where
      go : Dec (m ≡ k) → Dec (h ≡ g) → T (neighbour more k g)
      go (yes e) (yes d) = subst (λ (n : ℕ). T (neighbour more n g)) e (subst (λ (n : ℕ). T (neighbour more m n)) d put_here)
      go (yes e) (no f) = subst (λ (n : ℕ). T (neighbour more n g)) e (subst T (sym (bit_other w (neighbours_base + line_bytes * m) h g f)) (subst (λ (n : ℕ). T (neighbour w n g)) (sym e) t))
      go (no f) d = subst T (sym (put_apart w (neighbours_base + line_bytes * m) h (neighbours_base + line_bytes * k) g small b (side k f))) t

-- edge j more
module _ (H : Graph) (n j : ℕ) (w : List ℕ) (hj : j < length H.edges) (room : neighbours_end ≤ length w)
    (inside : (d : ℕ) → d < length H.edges → ((edge H d).from < max_nodes) × ((edge H d).to < max_nodes) × ((edge H d).label < 9)) (p : Putting H n j w) where
  abbrev fr : ℕ
  fr = (edge H j).from

  abbrev lab : ℕ
  lab = (edge H j).label

  abbrev to : ℕ
  to = (edge H j).to

  abbrev once : List ℕ
  once = put_bit w (neighbours_base + line_bytes * (10 * fr + lab)) to

  abbrev twice : List ℕ
  twice = put_bit once (neighbours_base + line_bytes * (10 * to + 9)) fr

  abbrev bounds : (fr < 256) × (to < 256) × (lab < 9)
  bounds = inside j hj

  first_fits : neighbours_base + line_bytes * (10 * fr + lab) + to / 8 < length w
  first_fits = omega (arith, bounds.0, bounds.1, bounds.2)

  second_fits : neighbours_base + line_bytes * (10 * to + 9) + fr / 8 < length once
  second_fits = omega (arith, bounds.0, bounds.1, length_put_bit w (neighbours_base + line_bytes * (10 * fr + lab)) to)

  -- what stands in a row of neighbours after both, and what was there
  both_i : (m y : ℕ) → y < max_nodes → T (neighbour w m y) → T (neighbour twice m y)
  both_i m y c t = put_i once (10 * to + 9) fr second_fits bounds.0 m y c (put_i w (10 * fr + lab) to first_fits bounds.1 m y c t)

  both_e : (m y : ℕ) → y < max_nodes → T (neighbour twice m y) → ((10 * to + 9 ≡ m) × (fr ≡ y)) ⊎ (((10 * fr + lab ≡ m) × (to ≡ y)) ⊎ T (neighbour w m y))
  both_e m y c t = go (put_e once (10 * to + 9) fr second_fits bounds.0 m y c t)
    where
      go : ((10 * to + 9 ≡ m) × (fr ≡ y)) ⊎ T (neighbour once m y) → ((10 * to + 9 ≡ m) × (fr ≡ y)) ⊎ (((10 * fr + lab ≡ m) × (to ≡ y)) ⊎ T (neighbour w m y))
      go (inl e) = inl e
      go (inr u) = inr (put_e w (10 * fr + lab) to first_fits bounds.1 m y c u)

  pub putting_more : (w' : List ℕ) → w' ≡ twice → Putting H n (j + 1) w'
  putting_more w' is = subst (Putting H n (j + 1)) (sym is) (record {
    after_sound = λ x l y a b c t. after x l y a b c (both_e (10 * x + l) y c t);
    before_sound = λ y x a c t. before y x a c (both_e (10 * y + 9) x c t);
    after_full = λ d h. after_all d h (ℕ_discrete d j);
    before_full = λ d h. before_all d h (ℕ_discrete d j);
  })
    where
      after : (x l y : ℕ) → x < n → l < 9 → y < max_nodes → ((10 * to + 9 ≡ 10 * x + l) × (fr ≡ y)) ⊎ (((10 * fr + lab ≡ 10 * x + l) × (to ≡ y)) ⊎ T (follows w x l y)) → Reaches H (λ (t : ℕ). t ≡ y) x l
      after x l y a b c (inl e) = absurd (omega (arith, e.0))
      after x l y a b c (inr (inl e)) = (j, hj, omega (arith, e.0, bounds.2), omega (arith, e.0, bounds.2), e.1)
      after x l y a b c (inr (inr t)) = p.after_sound x l y a b c t

      before : (y x : ℕ) → y < n → x < max_nodes → ((10 * to + 9 ≡ 10 * y + 9) × (fr ≡ x)) ⊎ (((10 * fr + lab ≡ 10 * y + 9) × (to ≡ x)) ⊎ T (comes w y x)) → Leads H x y
      before y x a c (inl e) = (j, hj, e.1, omega (arith, e.0))
      before y x a c (inr (inl e)) = absurd (omega (arith, e.0, bounds.2))
      before y x a c (inr (inr t)) = p.before_sound y x a c t

      after_all : (d : ℕ) → d < j + 1 → Dec (d ≡ j) → T (follows twice (edge H d).from (edge H d).label (edge H d).to)
      after_all d h (yes e) =
          subst (λ (i : ℕ). T (follows twice (edge H i).from (edge H i).label (edge H i).to)) (sym e)
          (put_i once (10 * to + 9) fr second_fits bounds.0 (10 * fr + lab) to bounds.1 (put_here w (10 * fr + lab) to first_fits bounds.1))
      after_all d h (no f) = both_i (10 * (edge H d).from + (edge H d).label) (edge H d).to (inside d (omega (arith, hj))).1 (p.after_full d (omega arith))

      before_all : (d : ℕ) → d < j + 1 → Dec (d ≡ j) → T (comes twice (edge H d).to (edge H d).from)
      before_all d h (yes e) = subst (λ (i : ℕ). T (comes twice (edge H i).to (edge H i).from)) (sym e) (put_here once (10 * to + 9) fr second_fits bounds.0)
      before_all d h (no f) = both_i (10 * (edge H d).to + 9) (edge H d).from (inside d (omega (arith, hj))).0 (p.before_full d (omega arith))

-- all edges
pub putting_end : (H : Graph) (n j : ℕ) (w : List ℕ) → length H.edges ≤ j → Putting H n j w → Neighbours H n w
putting_end H n j w all p = record {
  successors = λ x l y a b c. same_test (follows w x l y) (leads_into H y l x) (λ t. leads_into_i H y l x (p.after_sound x l y a b c t)) (λ t. back_after x l y (leads_into_e H y l x t));
  predecessors = λ y x a c. same_test (comes w y x) (leads_to H y x) (λ t. leads_to_i H y x (p.before_sound y x a c t)) (λ t. back_before y x (leads_to_e H y x t));
}
  where
    back_after : (x l y : ℕ) → Reaches H (λ (t : ℕ). t ≡ y) x l → T (follows w x l y)
    back_after x l y r =
        subst (λ (i : ℕ). T (follows w i l y)) r.2 (subst (λ (i : ℕ). T (follows w (edge H r.0).from i y)) r.3 (subst (λ (i : ℕ). T (follows w (edge H r.0).from (edge H r.0).label i)) r.4 (p.after_full r.0 (omega (arith, r.1)))))

    back_before : (y x : ℕ) → Leads H x y → T (comes w y x)
    back_before y x r = subst (λ (i : ℕ). T (comes w i x)) r.3 (subst (λ (i : ℕ). T (comes w (edge H r.0).to i)) r.2 (p.before_full r.0 (omega (arith, r.1))))
