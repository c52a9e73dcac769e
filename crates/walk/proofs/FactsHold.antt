-- The facts that the laws of the walk stand on hold for the chart of every accepted text.
use Rattle.std.proofs.Common.{◌≡◌, List, ℕ, ◌<◌, slice_index}
use Rattle.text.specs.frames.Frame.{contents}
use Rattle.text.specs.frames.Verdict.{fine}
use Rattle.charts.specs.Chart.{Chart}
use Rattle.charts.specs.Entry.{read_verdict}
use Rattle.charts.proofs.Accepted.{Accepted, SoundChart, accepted, accepted-bytes}
use Rattle.charts.proofs.Nodes.{kinds, owned, schemes-most, schemes-first, conditions, results, TheNode, begins, ends, handled, arc0, arc1}
use Rattle.charts.proofs.Nodes.{calls, functions}
use Rattle.walk.proofs.Facts.{Facts}
use Rattle.walk.proofs.Follow.{follows, tests, starts}

pub facts-of : (c : Chart) → Accepted c → ((k : ℕ) → slice_index c k < 256) → Facts c
facts-of c a bytes =
    let s : SoundChart c = a.sound in
    record {
      whole = a.whole;
      some = a.some;
      few = a.few;
      bytes = bytes;
      kinds = kinds c s;
      conditions = conditions c s;
      results = results c s;
      first = schemes-first c s a.some;
      most = schemes-most c s;
      owned = owned c s;
      begins = λ h l m. let b : TheNode c 0 h _ = begins c s h l m in (b.inside, b.kinded, b.same);
      ends = λ h l m. let b : TheNode c 1 h _ = ends c s h l m in (b.inside, b.kinded, b.same);
      handled = handled c s;
      arc0 = arc0 c s;
      arc1 = arc1 c s;
      calls = calls c s;
      functions = functions c s;
      follows = follows c s;
      tests = tests c s;
      starts = starts c s;
    }

pub facts : (t : List ℕ) → read_verdict t ≡ fine → Facts (contents t)
facts t e = facts-of (contents t) (accepted t e) (accepted-bytes t e)
