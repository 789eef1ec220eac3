use native.Mathlib.Omega.{arith}
use Rattle.files.specs.Decode.{decode_interface}
use Rattle.maximal.proofs.StateLaws.{entered_again, entered_past, entered_new}
use Rattle.maximal.proofs.states.enter.Goals as goal

pub returns-then-t-c : goal.returns-then-t-c
returns-then-t-c c =
    let a = c.args in
    let f = c.find_pair-t in
    entered_again a.s (decode_interface a.interface.now) a.property.now c.requires.0 a.q a.c a.kind a.set a.work.now c.requires.1.0 c.requires.1.1.0 c.requires.1.1.1.0 c.requires.1.1.1.1.0 c.requires.1.1.1.1.1 f.result f.ensures c.if-t-c.true c.put_bit.new.work c.put_bit.ensures

pub returns-then-c-s : goal.returns-then-c-s
returns-then-c-s c =
    let a = c.args in
    let f = c.find_pair-t in
    entered_past a.s (decode_interface a.interface.now) a.property.now c.requires.0 a.q a.c a.kind a.set a.work.now c.requires.1.0 c.requires.1.1.0 c.requires.1.1.1.0 c.requires.1.1.1.1.0 c.requires.1.1.1.1.1 f.result f.ensures (λ h. omega (arith, h, c.if-t-c.false)) c.if-c-s.true

pub returns : goal.returns
returns c =
    let a = c.args in
    let f = c.find_pair-t in
    entered_new a.s (decode_interface a.interface.now) a.property.now c.requires.0 a.q a.c a.kind a.set a.work.now c.requires.1.0 c.requires.1.1.0 c.requires.1.1.1.0 c.requires.1.1.1.1.0 c.requires.1.1.1.1.1 f.result f.ensures (λ h. omega (arith, h, c.if-t-c.false)) c.if-c-s.false (omega arith)
    c.put.new.work c.put-2.new.work c.put_bit-2.new.work c.put.ensures c.put-2.ensures c.put_bit-2.ensures
