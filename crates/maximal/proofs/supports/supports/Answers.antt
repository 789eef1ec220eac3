-- The search starts from the set itself, of which no row is worked, bounded by its completion, and may name as many operands as the property has or-rows.
use mathlib.Core.Path.{sym, ap₂, subst, ◌∙◌}
use mathlib.Core.List.{[]}
use Prim.Native.Nat.{ℕ, ◌^◌, ◌≤◌, ◌<◌}
use native.Mathlib.Omega.{arith}
use lib.Pow.{pow_mono}
use Rattle.files.specs.Decode.{decode_property}
use Rattle.maximal.specs.Collected.{collected}
use Rattle.maximal.specs.Collected.Search.{supports_of_is}
use Rattle.maximal.proofs.RowLaws.{rows_are}
use Rattle.maximal.proofs.SupportLaws.{bounded_first}
use Rattle.maximal.proofs.supports.supports.Goals as goal

pub collect-requires : goal.collect-requires
collect-requires c =
    let a = c.args in
    let few : 2 ^ a.ors ≤ 2 ^ 12 = pow_mono c.requires.1.1.1.0 in
    let b = c.closed_rows-bound in
    let e = rows_are a.property.now c.requires.0 a.n c.requires.1.0 in
    let of_rows = c.requires.1.1.1.1.0 in
    let tables = c.requires.1.1.1.1.1.1 in
    let bound = b.ensures (decode_property a.property.now) tables (subst (λ (m : ℕ). a.set < 2 ^ m) (sym e) of_rows) in
    let first = bounded_first a.property.now c.requires.0 a.n c.requires.1.0 c.requires.1.1.0 a.set b.result of_rows bound in
    (c.requires.0, (c.requires.1.0, (c.requires.1.1.0, (omega arith, (c.requires.1.1.1.1.1.0, (tables, first))))))

pub returns : goal.returns
returns c =
    let a = c.args in
    let P = decode_property a.property.now in
    let f = c.collect in
    let few : 2 ^ a.ors ≤ 2 ^ 12 = pow_mono c.requires.1.1.1.0 in
    let e = rows_are a.property.now c.requires.0 a.n c.requires.1.0 in
    let closed = c.closed_rows-bound.ensures in
    let bound = closed P c.requires.1.1.1.1.1.1 (subst (λ (m : ℕ). a.set < 2 ^ m) (sym e) c.requires.1.1.1.1.0) in
    let forbidden = c.untrue-forbidden.ensures in
    let is = supports_of_is P a.ors a.method a.flag a.set in (
      f.ensures.0 ∙ ap₂ (λ (b x : ℕ). collected P a.ors a.set 0 b x []) bound forbidden ∙ sym is,
      (omega (arith, f.ensures.1.0), f.ensures.1.1),
    )
