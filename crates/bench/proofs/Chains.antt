-- The cases of places hold, computed.
use mathlib.Core.Path.{refl}
use Rattle.words.specs.lists.Numbers.{any, lowest}
use Rattle.words.specs.graph.Reach.{reach}
use Rattle.places.specs.chains.Calls.{is_caller, is_circular, ends_of, places}
use Rattle.bench.specs.Chains.{ChainCases}

pub chain-cases : ChainCases
unfolding any lowest reach is_caller is_circular ends_of places
chain-cases = record { three-places = (refl, refl); itself-circular = refl; around-circular = refl; apart-places = (refl, refl) }
