-- For the code that works the slots of states, one after the other: a slot that has no label, that asks as an earlier one did, or that is worked anew.
use mathlib.Core.Path.{◌≡◌, sym, ap, ap₂, subst, ◌∙◌}
use mathlib.Core.Logic.{inl, inr}
use mathlib.Core.Bool.{Bool, true, false, not, ◌&&◌, ◌||◌}
use mathlib.Core.List.{List, Memᴰ}
use Prim.Native.Nat.{ℕ, ◌+◌, ◌*◌, ◌/◌, ◌%◌, ◌^◌, ◌≤◌, ◌<◌}
use native.Mathlib.Omega.{arith}
use lib.Bits.{bit_and, and_le_l}
use lib.Dec.{T, eqb, eqb→eq}
use lib.ListN.{length, get_or}
use Rattle.files.specs.Basics.Least.{least_hit}
use Rattle.files.specs.Basics.Tests.{and_l, and_r}
use Rattle.files.specs.Cells.{put_cell}
use Rattle.files.specs.Cells.Laws.{byte_outside, cell_agree, cell_same, cell_other, bit_byte}
use Rattle.files.specs.Decode.{decode_property}
use Rattle.files.specs.Interface.{Interface, requires_method}
use Rattle.files.specs.Places.{line_bytes, byte_end}
use Rattle.files.specs.Property.{Row, Property}
use Rattle.judging.specs.Chains.{Outside}
use Rattle.maximal.specs.Places.{asked_base, entries_slot, methods_base, model_room, sets_end, slots, targets_base, kinds_base, max_states, sets_base}
use Rattle.maximal.specs.declared.places.Scope.{Scope}
use Rattle.maximal.specs.Charting.{Scoped, flag_of, kind_at, set_at, method_at, asked_at, target, earlier, Known, Crowded, Admitted, Charting, Asking}
use Rattle.maximal.specs.Charting.Files.{rows_is, rows_fit, rows_named}
use Rattle.maximal.specs.Charting.Kept.{tables_same, charting_same, charting_beside}
use Rattle.maximal.proofs.Theorems.Charting.Anew.{followed_anew}
use Rattle.maximal.proofs.Theorems.Charting.Slots.{followed_none, followed_again}
use Rattle.maximal.proofs.Theorems.Charting.States.{known_i, collected_next}
use Rattle.maximal.specs.Collected.{supports_of, Tables}
use Rattle.maximal.specs.Masks.{asked_of}
use Rattle.maximal.specs.Masks.Laws.{asked_lt}
use Rattle.maximal.specs.Model.{at_next, is_label}
use Rattle.maximal.specs.Model.Computed.{label_is}
use Rattle.maximal.proofs.AdmitLaws.{tables_admitted}
use Rattle.maximal.proofs.SlotLaws.{slot_outside, slot_other, slot_same}

-- ---- from slot to slot

module _ (s : Scope) (I : Interface) (P : List Row) where
  -- what is known of t states once the slots below q are worked, from c states on
  abbrev pub Worked : ℕ → ℕ → ℕ → List ℕ → Type 0
  Worked c t q w = (t ≤ s.states → Charting I P t q w × (Tables P w × (c ≤ t))) × ((t ≤ s.states + 1) × (s.states < t → Crowded I P s.states))

  pub worked_all : (c q : ℕ) (w : List ℕ) → c ≤ s.states → Charting I P c q w → Tables P w → Worked c c q w
  worked_all c q w l x y = (λ h. (x, (y, omega arith)), (omega arith, λ h. absurd (omega arith)))

  -- so far there are c states, at least m
  pub record Working (m long₀ q c : ℕ) (w : List ℕ) : Type 0 where
    pub fits : c ≤ s.states
    pub more : m ≤ c
    pub long : length w ≡ long₀
    pub tables : Tables P w
    pub charting : Charting I P c q w

  pub working_on : (m long₀ c t q q' : ℕ) (w : List ℕ) → t ≤ s.states → m ≤ c → length w ≡ long₀ → q ≡ q' → Worked c t q w → Working m long₀ q' t w
  working_on m long₀ c t q q' w l h e d x = record {
    fits = l;
    more = omega (arith, (x.0 l).1.1);
    long = e;
    tables = (x.0 l).1.0;
    charting = subst (λ (i : ℕ). Charting I P t i w) d (x.0 l).0;
  }

module _ (s : Scope) (I : Interface) (p : List ℕ) (scoped : Scoped s p) where
  abbrev P : List Row
  P = decode_property p

  wf : Property P
  wf = rows_named s p scoped

  -- ---- a slot worked anew

  module _ (c q method set : ℕ) (w : List ℕ) (in_slots : q < 9 * c) (asking : Asking I P c q method set w) where
    here : q / 9 < c
    here = omega arith

    state : Known I P (kind_at w (q / 9)) (set_at w (q / 9))
    state = asking.charting.holds.known (q / 9) here

    pub slot_fits : q ≤ entries_slot
    slot_fits = omega (arith, asking.charting.holds.few)

    pub method_fits : 2 * method + 1 < byte_end
    method_fits = omega (arith, asking.of_method, state.method_to)

    pub set_fits : set < 2 ^ s.rows
    set_fits = subst (λ (k : ℕ). set < 2 ^ k) (rows_is s p scoped) (subst (λ (u : ℕ). u < 2 ^ length P) (sym asking.of_set) (asked_lt P (set_at w (q / 9)) (q % 9)))

    -- a set listed for a kind of this method is that of a state that follows
    pub next_known : (kind : ℕ) → kind / 2 ≡ method → (u : ℕ) → Memᴰ u (supports_of P s.ors (kind / 2) (flag_of kind) set) → Known I P kind u
    next_known kind e u i =
        let a = collected_next I P wf s.ors scoped.enough_ors (kind_at w (q / 9)) (set_at w (q / 9)) (q % 9) kind u asking.label (e ∙ asking.of_method)
        (subst (λ (o : ℕ). Memᴰ u (supports_of P s.ors (kind / 2) (flag_of kind) o)) asking.of_set i) in
        known_i I P kind u a.0 (at_next state.reached a.1)

    abbrev sets : ℕ → List ℕ
    sets kind = supports_of P s.ors (kind / 2) (flag_of kind) set

    pub worked_anew : (a t : ℕ) (v w' : List ℕ) → Admitted I P c a (2 * method) (sets (2 * method)) q w v → Tables P v
        → (t ≤ s.states → Admitted I P a t (2 * method + 1) (sets (2 * method + 1)) q v w') × ((t ≤ s.states + 1) × (s.states < t → Crowded I P s.states)) → Worked s I P c t (q + 1) w'
    worked_anew a t v w' x tables y = (
      λ h. (
        followed_anew I P wf s.ors scoped.enough_ors c a t q method set w v w' in_slots asking x (y.0 h),
        (tables_admitted s I p scoped a t (2 * method + 1) q (sets (2 * method + 1)) v w' (y.0 h) tables, omega (arith, x.more, (y.0 h).more)),
      ),
      y.1,
    )

  -- ---- what follows state i under a label

  -- the slot of state i and a label is next, its row is cleared, and b says whether there is such a label
  pub record Cleared (i label c : ℕ) (w₀ w : List ℕ) (b : Bool) : Type 0 where
    pub of_states : i < c
    pub of_labels : label < 9
    pub in_scope : c ≤ s.states
    pub room : model_room ≤ length w
    pub tables₀ : Tables P w₀
    pub charting₀ : Charting I P c (9 * i + label) w₀
    pub blank : (t : ℕ) → t < max_states → target w (9 * i + label) t ≡ false
    pub beside : Outside (targets_base + line_bytes * (9 * i + label)) (targets_base + line_bytes * (9 * i + label) + 32) w₀ w
    pub told : b ≡ (eqb label 0 || requires_method I label)

  module _ {i label c : ℕ} {w₀ w : List ℕ} {b : Bool} (y : Cleared i label c w₀ w b) where
    abbrev q : ℕ
    q = 9 * i + label

    pub in_rows : q < slots
    in_rows = omega (arith, y.charting₀.holds.few)

    x : Charting I P c q w
    x = charting_beside q w₀ w y.beside I P c in_rows (omega arith) y.charting₀

    tables : Tables P w
    tables = tables_same P w₀ w (rows_fit s p scoped) (λ d l. y.beside d (inl (omega arith))) y.tables₀

    state_i : Known I P (kind_at w i) (set_at w i)
    state_i = x.holds.known i y.of_states

    of_state : q / 9 ≡ i
    of_state = omega arith

    of_label : q % 9 ≡ label
    of_label = omega arith

    labelled : is_label I P (q % 9) ≡ b
    labelled = ap (is_label I P) of_label ∙ label_is I P wf label ∙ sym y.told

    pub worked_none : not b ≡ true → (w₁ : List ℕ) → w₁ ≡ put_cell w methods_base 1 q 0 → Worked s I P c c (q + 1) w₁
    worked_none e w₁ d =
        worked_all s I P c (q + 1) w₁ y.in_scope
        (followed_none I P wf c q w₁ (λ t m. bits q t ∙ y.blank t m)
        (ap (λ (u : List ℕ). method_at u q) d ∙ cell_same w methods_base 1 q 0 (omega (arith, in_rows)) (omega arith)) (λ t. off b e (subst T labelled t))
        (charting_same I P c w w₁ (λ j l. cell_agree w₁ w kinds_base 1 j (λ n m k. low n (omega (arith, x.holds.few))))
        (λ j l. cell_agree w₁ w sets_base 4 j (λ n m k. low n (omega (arith, x.holds.few)))) q in_rows (omega arith) (λ j t l m n. bits j t)
        (λ j l. (
          ap (λ (u : List ℕ). method_at u j) d ∙ cell_other w methods_base 1 q j 0 (λ z. omega arith),
          cell_agree w₁ w asked_base 4 j
              (λ n m k. high n (omega (arith, in_rows))),
        )) x))
        (tables_same P w w₁ (rows_fit s p scoped) (λ n l. low n (omega arith)) tables)
      where
        off : (b : Bool) → not b ≡ true → T b → ⊥
        off true e t = subst T (sym e) tt
        off false e t = t

        low : (n : ℕ) → n < methods_base → get_or w₁ n 0 ≡ get_or w n 0
        low n l = ap (λ (u : List ℕ). get_or u n 0) d ∙ byte_outside w methods_base 1 q 0 n (inl (omega arith))

        high : (n : ℕ) → asked_base ≤ n → get_or w₁ n 0 ≡ get_or w n 0
        high n l = ap (λ (u : List ℕ). get_or u n 0) d ∙ byte_outside w methods_base 1 q 0 n (inr (omega (arith, in_rows)))

        bits : (j t : ℕ) → target w₁ j t ≡ target w j t
        bits j t = bit_byte w₁ w targets_base targets_base (max_states * j + t) (high (targets_base + (max_states * j + t) / 8) (omega arith))

    -- the rows of the state, and so those of them that are among others
    pub among_fits : (v t : ℕ) → v ≡ set_at w i → bit_and v t < 2 ^ s.rows
    among_fits v t e =
        let h : v < 2 ^ s.rows = subst (λ (k : ℕ). v < 2 ^ k) (rows_is s p scoped) (subst (λ (u : ℕ). u < 2 ^ length P) (sym e) state_i.of_rows) in
        omega (arith, and_le_l v t)

    -- the state's method and what it asks for are stored there
    pub record Stored (kind set : ℕ) (w₁ w₂ : List ℕ) : Type 0 where
      pub follows : not b ≡ false
      pub is_kind : kind ≡ kind_at w i
      pub asks : set ≡ asked_of P (set_at w i) label
      pub narrow : set < sets_end
      pub put_method : w₁ ≡ put_cell w methods_base 1 q (kind / 2)
      pub put_asked : w₂ ≡ put_cell w₁ asked_base 4 q set

    module _ {kind set : ℕ} {w₁ w₂ : List ℕ} (z : Stored kind set w₁ w₂) where
      outside : Outside methods_base targets_base w w₂
      outside = slot_outside q (kind / 2) set w w₁ w₂ in_rows y.room z.put_method z.put_asked

      kinds : (j : ℕ) → j < c → kind_at w₂ j ≡ kind_at w j
      kinds j l = cell_agree w₂ w kinds_base 1 j (λ d m n. outside d (inl (omega (arith, x.holds.few))))

      sets_kept : (j : ℕ) → j < c → set_at w₂ j ≡ set_at w j
      sets_kept j l = cell_agree w₂ w sets_base 4 j (λ d m n. outside d (inl (omega (arith, x.holds.few))))

      bits : (j t : ℕ) → target w₂ j t ≡ target w j t
      bits j t = bit_byte w₂ w targets_base targets_base (max_states * j + t) (outside (targets_base + (max_states * j + t) / 8) (inr (omega arith)))

      method_low : kind / 2 < byte_end
      method_low = omega (arith, z.is_kind, state_i.method_to)

      slot_here : (method_at w₂ q ≡ kind / 2) × (asked_at w₂ q ≡ set)
      slot_here = slot_same q (kind / 2) set w w₁ w₂ in_rows y.room z.put_method z.put_asked method_low z.narrow

      slot_kept : (j : ℕ) → j < q → (method_at w₂ j ≡ method_at w j) × (asked_at w₂ j ≡ asked_at w j)
      slot_kept j l = slot_other q (kind / 2) set w w₁ w₂ in_rows y.room z.put_method z.put_asked j (omega (arith, in_rows)) (λ e. omega arith)

      asking_here : Asking I P c q (kind / 2) set w₂
      asking_here = record {
        charting = charting_same I P c w w₂ kinds sets_kept q in_rows (omega arith) (λ j t l m n. bits j t) slot_kept x;
        blank = λ t m. bits q t ∙ y.blank t m;
        label = subst T (sym labelled) (on b z.follows);
        method_is = slot_here.0;
        asked_is = slot_here.1;
        of_method = ap (λ (k : ℕ). k / 2) (z.is_kind ∙ sym (ap (kind_at w₂) of_state ∙ kinds i y.of_states));
        of_set = z.asks ∙ ap₂ (asked_of P) (sym (ap (set_at w₂) of_state ∙ sets_kept i y.of_states)) (sym of_label);
      }
        where
          on : (b : Bool) → not b ≡ false → T b
          on true e = tt
          on false e = subst T e tt

      tables_here : Tables P w₂
      tables_here = tables_same P w w₂ (rows_fit s p scoped) (λ d l. outside d (inl (omega arith))) tables

      pub may_follow : Tables P w₂ × Asking I P c q (kind / 2) set w₂
      may_follow = (tables_here, asking_here)

      -- an earlier slot asks the same
      pub worked_again : (j : ℕ) → j ≡ earlier w q (kind / 2) set → j < q → (w₃ : List ℕ) → ((t : ℕ) → t < max_states → target w₃ q t ≡ target w₂ j t)
          → Outside (targets_base + line_bytes * q) (targets_base + line_bytes * q + line_bytes) w₂ w₃ → Worked s I P c c (q + 1) w₃
      worked_again j is_j l w₃ row rest =
          worked_all s I P c (q + 1) w₃ y.in_scope
          (followed_again I P wf s.ors scoped.enough_ors c q (kind / 2) set j w₂ w₃ (omega arith) l (omega (arith, z.is_kind, state_i.method_from))
          ((slot_kept j l).0 ∙ method_j) ((slot_kept j l).1 ∙ asked_j) asking_here row rest)
          (tables_same P w₂ w₃ (rows_fit s p scoped) (λ d m. rest d (inl (omega arith))) tables_here)
        where
          test : T (eqb (method_at w j) (kind / 2) && eqb (asked_at w j) set)
          test = subst (λ (k : ℕ). T (eqb (method_at w k) (kind / 2) && eqb (asked_at w k) set)) (sym is_j)
              (least_hit (λ (k : ℕ). eqb (method_at w k) (kind / 2) && eqb (asked_at w k) set) q (subst (λ (k : ℕ). k < q) is_j l))

          method_j : method_at w j ≡ kind / 2
          method_j = eqb→eq (method_at w j) (kind / 2) (and_l (eqb (method_at w j) (kind / 2)) (eqb (asked_at w j) set) test)

          asked_j : asked_at w j ≡ set
          asked_j = eqb→eq (asked_at w j) set (and_r (eqb (method_at w j) (kind / 2)) (eqb (asked_at w j) set) test)
