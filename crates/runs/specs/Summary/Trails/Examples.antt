-- P10 and P11, computed; and: a method without entry makes no event, and a call that never returns is not passed over.
use Rattle.std.specs.Prelude.{◌≡◌, refl, true, false, cond, [], ◌∷◌, ◌++◌, eqb, length}
use Rattle.files.specs.Course.{bytes, nd, ed, gr, call_graph, returning_graph, return_monitor}
use Rattle.files.specs.Rules.{Monitor}
use Rattle.runs.specs.Summary.{callee, moves, leads_from, along, spot_rule, all_spots, spots, moved_from, called_from, reaches, place_rule, all_places, places, clean}
use Rattle.runs.specs.Summary.Trails.{recs, leaving, trail, trail_bytes}

pub p10_clean : clean call_graph return_monitor 1 ≡ true
unfolding clean places all_places place_rule reaches moved_from called_from spots all_spots spot_rule along leads_from moves callee
p10_clean = refl

pub p11_bad : clean returning_graph return_monitor 1 ≡ false
unfolding clean places all_places place_rule reaches moved_from called_from spots all_spots spot_rule along leads_from moves callee
p11_bad = refl

pub p11_trail : trail_bytes returning_graph return_monitor 1 ≡ bytes 0 0 0 0 0 0 ++ bytes 0 0 3 1 1 7
unfolding trail_bytes trail all_places leaving recs spots all_spots spot_rule along leads_from moves callee
p11_trail = refl

pub p11_length : length (trail returning_graph return_monitor 1) ≡ 2
unfolding trail all_places leaving recs spots all_spots spot_rule along leads_from moves callee
p11_length = refl

-- every call is bad
abbrev call_monitor : Monitor
call_monitor q v = cond (eqb v.kind 1) 7 q

-- "a call event without an entry": method 2 has no entry node, so its call makes no event
pub no_entry_clean : clean (gr (nd false true ∷ nd true false ∷ []) (ed 0 2 1 ∷ [])) call_monitor 1 ≡ true
unfolding clean places all_places place_rule reaches moved_from called_from spots all_spots spot_rule along leads_from moves callee
no_entry_clean = refl

-- "a return node runs no edge": the call leaves a return node
pub return_runs_nothing : clean (gr (nd true true ∷ nd true false ∷ []) (ed 0 1 1 ∷ [])) call_monitor 1 ≡ true
unfolding clean places all_places place_rule reaches moved_from called_from spots all_spots spot_rule along leads_from moves callee
return_runs_nothing = refl
