-- How many places a chart needs, by its text.
use Rattle.std.specs.Prelude.{ℕ, List}
use Rattle.text.specs.declared.frames.refusals.TheConstants.{CALLS_ITSELF}
use Rattle.text.specs.frames.Frame.{contents}
use Rattle.text.specs.frames.Verdict.{Verdict, next, when}
use Rattle.text.specs.frames.Answer.{Reply, verdict_reply}
use Rattle.translator.specs.Entry.{translate_verdict}
use Rattle.places.specs.chains.Calls.{is_circular, places}

-- 1 to 10, 19 after 5, and 20
unfoldable pub places_verdict : List ℕ → Verdict
places_verdict t = next (translate_verdict t) λ _. when CALLS_ITSELF (is_circular (contents t))

-- success counts the places
unfoldable pub places_needed : List ℕ → Reply
places_needed t = verdict_reply (places_verdict t) (places (contents t))
