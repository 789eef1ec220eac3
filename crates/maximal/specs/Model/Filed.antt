-- The model, where it is within the limits, is a graph that a file can hold.
-- Its theorems that rest on a definition which a must-fail edit turns stand in proofs/Theorems/Model/Filed.
use Rattle.std.proofs.Common.{inl, inr}
use Rattle.files.specs.Basics.Lexical.{Before}
use Rattle.files.specs.Decode.{key}
use Rattle.files.specs.Graph.{Edge}
use Rattle.maximal.specs.Model.Ordered.{EdgeBefore, by_from, by_label, by_to}

pub edge_before : (d e : Edge) → EdgeBefore d e → Before (key d) (key e)
edge_before d e (by_from h) = inl h
edge_before d e (by_label p h) = inr (p, inl h)
edge_before d e (by_to p q h) = inr (p, inr (q, inl h))
