-- The theorems of specs/Composing/Entries that rest on a definition which a must-fail edit turns: there they could not be read under the edit.
-- Entries: "A method needs an entry": of the modules that conform those that load, with an entry for each provided method; and that the model lacks one exactly where none loads. For request
-- 6, in composed verdicts only: judging, comparing, modelling and watching speak of conforming graphs.
use Rattle.std.specs.Prelude.{◌≡◌, refl, ◌⊎◌, ◌↔◌, Bool, true, false, not, cond, ◌||◌, ℕ, T}
use Rattle.std.proofs.Common.{sym, ap, subst, inl, inr, arith}
use Rattle.std.proofs.Math.Logic.Iff
use Rattle.std.proofs.Math.Decide.{ℕ_discrete}
use Rattle.files.specs.Basics.Tests.{or_e, or_l, or_r, not_or}
use Rattle.files.specs.Graph.{Graph}
use Rattle.files.specs.Join.{join}
use Rattle.files.specs.Outcome.{Said}
use Rattle.files.specs.Rules.{Monitor}
use Rattle.runs.specs.Composing.{Side, known, unwritten, gives, impossible, LoadsOn, SomeLoads, NoneLoads, AllClean, SomeBad, impossible_said, sides_said}
use Rattle.runs.specs.Composing.Sides.{Sound}
use Rattle.runs.proofs.Theorems.Composing.Sides.{bad_of_sides, clean_of_sides}
use Rattle.runs.specs.Runs.{Bad as BadRun, Clean}
use Rattle.runs.specs.Watching.{Watches, watch_said}
use Rattle.runs.specs.Watching.Laws.{watch_no_third}
use Rattle.runs.specs.Composing.Entries.{SidesSay, impossible_iff, loads_admitted, model_loads}

-- what a side gives loads on it, unless nothing can
gives_loads : (A : Side) → Sound A → T (not (impossible A)) → LoadsOn A (gives A)
gives_loads (known K) s t = refl
gives_loads (unwritten I P) s t = model_loads I P s t

impossible_side_iff : (A : Side) → Sound A → T (impossible A) ↔ ((G : Graph) → LoadsOn A G → ⊥)
impossible_side_iff (known K) s = (λ t. absurd t, λ f. absurd (f K refl))
impossible_side_iff (unwritten I P) s = impossible_iff I P s

module _ (A B : Side) (sa : Sound A) (sb : Sound B) where
  -- "when either has none"
  pub impossible_of_sides : T (impossible A || impossible B) ↔ (NoneLoads A ⊎ NoneLoads B)
  impossible_of_sides = (λ t. told (or_e (impossible A) (impossible B) t), tells)
    where
      told : T (impossible A) ⊎ T (impossible B) → NoneLoads A ⊎ NoneLoads B
      told (inl t) = inl ((impossible_side_iff A sa).0 t)
      told (inr t) = inr ((impossible_side_iff B sb).0 t)

      tells : NoneLoads A ⊎ NoneLoads B → T (impossible A || impossible B)
      tells (inl f) = or_l (impossible A) (impossible B) ((impossible_side_iff A sa).1 f)
      tells (inr f) = or_r (impossible A) (impossible B) ((impossible_side_iff B sb).1 f)

  module _ (possible : T (not (impossible A || impossible B))) (mon : Monitor) (m : ℕ) where
    given : LoadsOn A (gives A) × LoadsOn B (gives B)
    given = let p = not_or (impossible A) (impossible B) possible in (gives_loads A sa p.0, gives_loads B sb p.1)

    -- what two sides give is bad together exactly where some graphs that load on them are
    pub bad_of_loaded : BadRun (join (gives A) (gives B)) mon m ↔ SomeBad A B mon m
    bad_of_loaded = (
      λ bad. (gives A, gives B, given.0, given.1, bad),
      λ x. (bad_of_sides A B sa sb mon m).1 (x.0, x.1, loads_admitted A x.0 x.2, loads_admitted B x.1 x.3, x.4),
    )

    -- and clean together exactly where some load, and all that do are
    pub clean_of_loaded : Clean (join (gives A) (gives B)) mon m
        ↔ (SomeLoads A × (SomeLoads B × AllClean A B mon m))
    clean_of_loaded = (
      λ clean. ((gives A, given.0), ((gives B, given.1), λ G H a b. (clean_of_sides A B sa sb mon m).0 clean G H (loads_admitted A G a) (loads_admitted B H b))),
      λ x. x.1.1 (gives A) (gives B) given.0 given.1,
    )

module _ (A B : Side) (sa : Sound A) (sb : Sound B) (mon : Monitor) (m : ℕ)
    (watches : (s : Said) → s ≡ watch_said (join (gives A) (gives B)) mon m → Watches (join (gives A) (gives B)) mon m s) where
  -- nothing loads on one of them
  say_impossible : T (impossible A || impossible B) → (s : Said) → s ≡ impossible_said → SidesSay A B mon m s
  say_impossible t s e =
      let v : s.verdict ≡ 3 = ap (λ (x : Said). x.verdict) e in
      let none = (impossible_of_sides A B sa sb).0 t in
      record {
        impossible_is = (λ q. none, λ q. v);
        clean_is = (λ q. absurd (omega arith), λ x. absurd (nothing none x.0.0 x.1.0.0 x.0.1 x.1.0.1));
        bad_is = (λ q. absurd (omega arith), λ x. absurd (nothing none x.0 x.1 x.2 x.3));
        clean_without_entries = λ q. absurd (omega arith);
        given_loads = λ q. absurd (omega arith);
        impossible_writes = λ q. (ap (λ (x : Said). x.values) e, ap (λ (x : Said). x.written) e);
        on_given = λ f. absurd (f v);
        three = inr (inr v);
      }
    where
      nothing : NoneLoads A ⊎ NoneLoads B → (G H : Graph) → LoadsOn A G → LoadsOn B H → ⊥
      nothing (inl f) G H a b = f G a
      nothing (inr f) G H a b = f H b

  -- something loads on each
  say_watched : T (not (impossible A || impossible B)) → (s : Said) → s ≡ watch_said (join (gives A) (gives B)) mon m → SidesSay A B mon m s
  say_watched t s e =
      let w = watches s e in
      let clean = clean_of_loaded A B sa sb t mon m in
      let bad = bad_of_loaded A B sa sb t mon m in
      record {
        impossible_is = (λ q. absurd (watch_no_third (join (gives A) (gives B)) mon m s e q), λ x. absurd (apart (impossible A || impossible B) ((impossible_of_sides A B sa sb).1 x) t));
        clean_is = Iff.trans w.clean_iff clean;
        bad_is = Iff.trans w.bad_iff bad;
        clean_without_entries = λ q. (clean_of_sides A B sa sb mon m).0 (w.clean_iff.0 q);
        given_loads = λ q. given A B sa sb t mon m;
        impossible_writes = λ q. absurd (watch_no_third (join (gives A) (gives B)) mon m s e q);
        on_given = λ f. w;
        three = two (ℕ_discrete s.verdict 2) w;
      }
    where
      two : Dec (s.verdict ≡ 2) → Watches (join (gives A) (gives B)) mon m s → (s.verdict ≡ 1) ⊎ ((s.verdict ≡ 2) ⊎ (s.verdict ≡ 3))
      two (yes q) w = inr (inl q)
      two (no f) w = inl (w.clean_iff.1 (λ b. f (w.bad_iff.1 b)))

      apart : (b : Bool) → T b → T (not b) → ⊥
      apart true x y = y
      apart false x y = x

  pub sides_say : (s : Said) → s ≡ sides_said A B mon m → SidesSay A B mon m s
  sides_say s e = go (impossible A || impossible B) refl e
    where
      go : (b : Bool) → (impossible A || impossible B) ≡ b → s ≡ cond b impossible_said (watch_said (join (gives A) (gives B)) mon m) → SidesSay A B mon m s
      go true q x = say_impossible (subst T (sym q) tt) s x
      go false q x = say_watched (subst (λ (b : Bool). T (not b)) (sym q) tt) s x
