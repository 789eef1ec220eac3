-- For the code that enters the entries: kind by kind, and what a method that is provided or not adds.
use mathlib.Core.Path.{◌≡◌, refl, sym, ap, subst, ◌∙◌}
use mathlib.Core.Logic.{inl}
use mathlib.Core.Bool.{Bool, true, false, ◌&&◌}
use mathlib.Core.List.{List, [], Memᴰ}
use Prim.Native.Nat.{ℕ, ◌+◌, ◌*◌, ◌/◌, ◌^◌, ◌≤◌, ◌<◌}
use native.Mathlib.Omega.{arith}
use lib.Dec.{T, eqb}
use lib.ListN.{length}
use lib.Pow.{pow-lt}
use Rattle.files.specs.Basics.Tests.{any}
use Rattle.files.specs.Decode.{decode_property}
use Rattle.files.specs.Interface.{Interface, provides}
use Rattle.files.specs.Places.{line_bytes}
use Rattle.files.specs.Property.{Row, Property}
use Rattle.judging.specs.Chains.{Outside}
use Rattle.maximal.specs.Places.{entries_slot, targets_base, max_states}
use Rattle.maximal.specs.declared.places.Scope.{Scope}
use Rattle.maximal.specs.Charting.{Scoped, flag_of, state_of, target, Known, Admitted}
use Rattle.maximal.specs.Charting.Entries.{EntriesBelow, entries_none, entries_more}
use Rattle.maximal.specs.Charting.Files.{rows_is, rows_fit, rows_named}
use Rattle.maximal.specs.Charting.Kept.{tables_same}
use Rattle.maximal.specs.Charting.Entering.{admitted_none}
use Rattle.maximal.specs.Charting.States.{collected_entry, entry_is}
use Rattle.maximal.proofs.Theorems.Charting.States.{known_i}
use Rattle.maximal.specs.Collected.{supports_of, Tables}
use Rattle.maximal.specs.Model.{at_entry, is_entry}
use Rattle.maximal.proofs.AdmitLaws.{tables_admitted}

-- the entries of the kinds below k are entered
pub record KindsEntered (s : Scope) (I : Interface) (P : List Row) (long₀ k c : ℕ) (w : List ℕ) : Type 0 where
  pub fits : c ≤ s.states
  pub long : length w ≡ long₀
  pub tables : Tables P w
  pub entries : EntriesBelow I P k c w

-- the tables stand before the rows, so a row may be cleared
pub kinds_none : (s : Scope) (I : Interface) (p : List ℕ) → Scoped s p → (w w' : List ℕ) → Tables (decode_property p) w → ((t : ℕ) → t < max_states → target w' entries_slot t ≡ false) → Outside (targets_base + line_bytes * entries_slot) (targets_base + line_bytes * entries_slot + line_bytes) w w'
    → KindsEntered s I (decode_property p) (length w') 2 0 w'
kinds_none s I p scoped w w' x blank o = record {
  fits = omega arith;
  long = refl;
  tables = tables_same (decode_property p) w w' (rows_fit s p scoped) (λ b h. o b (inl (omega arith))) x;
  entries = entries_none I (decode_property p) w' blank;
}

module _ (s : Scope) (I : Interface) (p : List ℕ) (scoped : Scoped s p) where
  abbrev P : List Row
  P = decode_property p

  wf : Property P
  wf = rows_named s p scoped

  -- {row 0}
  pub root_fits : 1 < 2 ^ s.rows
  root_fits = subst (λ (n : ℕ). 1 < 2 ^ n) (rows_is s p scoped) (pow-lt wf.has_root)

  module _ (kind : ℕ) (b : Bool) (is : b ≡ provides I (kind / 2)) where
    abbrev entry_sets : List ℕ
    entry_sets = supports_of P s.ors (kind / 2) (flag_of kind) 1

    pub entry_known : b ≡ true → (u : ℕ) → Memᴰ u entry_sets → Known I P kind u
    entry_known e u i =
        let a = collected_entry I P wf s.ors scoped.enough_ors kind u (subst T (sym (sym is ∙ e)) tt) i in
        known_i I P kind u a.0 (at_entry a.1)

    entries_are : (z : Bool) → b ≡ z → (u : ℕ) → u < 2 ^ length P → is_entry I P (state_of (length P) kind u) ≡ (z && any (λ (y : ℕ). eqb u y) entry_sets)
    entries_are z e u h = entry_is I P wf s.ors scoped.enough_ors kind u h ∙ ap (λ (z : Bool). z && any (λ (y : ℕ). eqb u y) entry_sets) (sym is ∙ e)

    module _ (long₀ c : ℕ) (w : List ℕ) (x : KindsEntered s I P long₀ kind c w) where
      -- the entries of a provided method are entered ..
      pub kinds_with : b ≡ true → (t : ℕ) (w' : List ℕ) → length w' ≡ length w → t ≤ s.states → (t ≤ s.states → Admitted I P c t kind entry_sets entries_slot w w') → KindsEntered s I P long₀ (kind + 1) t w'
      kinds_with e t w' same l f = record {
        fits = l;
        long = same ∙ x.long;
        tables = tables_admitted s I p scoped c t kind entries_slot entry_sets w w' (f l) x.tables;
        entries = entries_more I P wf kind c t entry_sets w w' x.entries (f l) (entries_are true e);
      }

      -- .. and a method that is not provided has none
      pub kinds_without : b ≡ false → KindsEntered s I P long₀ (kind + 1) c w
      kinds_without e = record {
        fits = x.fits;
        long = x.long;
        tables = x.tables;
        entries = entries_more I P wf kind c c [] w w x.entries (admitted_none I P c kind entries_slot w x.entries.holds (omega arith)) (entries_are false e);
      }
