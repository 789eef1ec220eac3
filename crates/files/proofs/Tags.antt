-- A record that does not read as the kind looked for: a test that asks for that kind only says of it what it says of Other (docs/DECISIONS.md).
use mathlib.Core.Path.{◌≡◌, refl, sym, ap, subst, ◌∙◌}
use mathlib.Core.Bool.{Bool, cond}
use Prim.Native.Nat.{ℕ}
use native.Mathlib.Omega.{arith}
use lib.Dec.{eqb}
use borrow.Author.Tests.{ne_eqb}
use Rattle.files.specs.declared.record.Parsed.{Parsed}
use Rattle.files.specs.declared.record.Parsed.TheVariants.{Node, Edge, Row, Rule, Interface, Wrong, Other}
use Rattle.files.specs.Record.Laws.{kind_read}

-- ---- the records that do not read as kind k, from what the code's arm for any other variant knows

pub not_node : (x : Parsed) → ((m : ℕ) (r e : Bool) → x ≡ Node m r e → ⊥) → kind_read x ≡ 1 → ⊥
not_node (Node m r e) h k = h m r e refl
not_node (Edge f l t) h k = omega arith
not_node (Row o a b) h k = omega arith
not_node (Rule q v m n s) h k = omega arith
not_node (Interface p q) h k = omega arith
not_node Wrong h k = omega arith
not_node Other h k = omega arith

pub not_edge : (x : Parsed) → ((f l t : ℕ) → x ≡ Edge f l t → ⊥) → kind_read x ≡ 2 → ⊥
not_edge (Node m r e) h k = omega arith
not_edge (Edge f l t) h k = h f l t refl
not_edge (Row o a b) h k = omega arith
not_edge (Rule q v m n s) h k = omega arith
not_edge (Interface p q) h k = omega arith
not_edge Wrong h k = omega arith
not_edge Other h k = omega arith

pub not_row : (x : Parsed) → ((o a b : ℕ) → x ≡ Row o a b → ⊥) → kind_read x ≡ 3 → ⊥
not_row (Node m r e) h k = omega arith
not_row (Edge f l t) h k = omega arith
not_row (Row o a b) h k = h o a b refl
not_row (Rule q v m n s) h k = omega arith
not_row (Interface p q) h k = omega arith
not_row Wrong h k = omega arith
not_row Other h k = omega arith

pub not_rule : (x : Parsed) → ((q v m n s : ℕ) → x ≡ Rule q v m n s → ⊥) → kind_read x ≡ 4 → ⊥
not_rule (Node m r e) h k = omega arith
not_rule (Edge f l t) h k = omega arith
not_rule (Row o a b) h k = omega arith
not_rule (Rule q v m n s) h k = h q v m n s refl
not_rule (Interface p q) h k = omega arith
not_rule Wrong h k = omega arith
not_rule Other h k = omega arith

pub not_interface : (x : Parsed) → ((p q : ℕ) → x ≡ Interface p q → ⊥) → kind_read x ≡ 5 → ⊥
not_interface (Node m r e) h k = omega arith
not_interface (Edge f l t) h k = omega arith
not_interface (Row o a b) h k = omega arith
not_interface (Rule q v m n s) h k = omega arith
not_interface (Interface p q) h k = h p q refl
not_interface Wrong h k = omega arith
not_interface Other h k = omega arith

-- a record that is known to read as one kind does not read as another
pub never : (k : ℕ) (x y : Parsed) → x ≡ y → kind_read y ≡ k → (kind_read x ≡ k → ⊥) → ⊥
never k x y p e h = h (ap kind_read p ∙ e)

-- ---- a test that asks for kind k only

-- what a test says of each record; of kind k, what it says of Other
pub record Said (A : Type 0) : Type 0 where
  pub node : ℕ → Bool → Bool → A
  pub edge : ℕ → ℕ → ℕ → A
  pub row : ℕ → ℕ → ℕ → A
  pub rule : ℕ → ℕ → ℕ → ℕ → ℕ → A
  pub interface : ℕ → ℕ → A
  pub wrong : A

abbrev pub said : {A : Type 0} → ℕ → (Parsed → A) → Said A
said k f = record {
  node = λ m r e. cond (eqb k 1) (f Other) (f (Node m r e));
  edge = λ g l h. cond (eqb k 2) (f Other) (f (Edge g l h));
  row = λ o a b. cond (eqb k 3) (f Other) (f (Row o a b));
  rule = λ q v m n s. cond (eqb k 4) (f Other) (f (Rule q v m n s));
  interface = λ p q. cond (eqb k 5) (f Other) (f (Interface p q));
  wrong = f Wrong;
}

-- a test that says one thing of all records but those of kind k
abbrev pub Asks : {A : Type 0} → ℕ → (Parsed → A) → Type 0
Asks k f = said k f ≡ said k (λ x. f Other)

kept : {A : Type 0} (k n : ℕ) (v w : A) → (n ≡ k → ⊥) → cond (eqb k n) v w ≡ cond (eqb k n) v v → v ≡ w
kept k n v w h p = sym (subst (λ (b : Bool). cond b v w ≡ cond b v v) (ne_eqb k n (λ q. h (sym q))) p)

pub elsewhere : {A : Type 0} (k : ℕ) (f : Parsed → A) → Asks k f → (x : Parsed) → (kind_read x ≡ k → ⊥) → f Other ≡ f x
elsewhere {A} k f a (Node m r e) h = kept k 1 _ _ h (ap (λ (s : Said A). s.node m r e) a)
elsewhere {A} k f a (Edge g l t) h = kept k 2 _ _ h (ap (λ (s : Said A). s.edge g l t) a)
elsewhere {A} k f a (Row o c b) h = kept k 3 _ _ h (ap (λ (s : Said A). s.row o c b) a)
elsewhere {A} k f a (Rule q v m n t) h = kept k 4 _ _ h (ap (λ (s : Said A). s.rule q v m n t) a)
elsewhere {A} k f a (Interface p q) h = kept k 5 _ _ h (ap (λ (s : Said A). s.interface p q) a)
elsewhere {A} k f a Wrong h = sym (ap (λ (s : Said A). s.wrong) a)
elsewhere {A} k f a Other h = refl
