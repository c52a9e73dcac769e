-- Every case of a refusal holds, computed.
use Rattle.std.proofs.Common.{refl}
use Rattle.bench.specs.Bench.{chart_p, image_p, bench_words, chart_function}
use Rattle.bench.specs.RefusalCases.{RefusalCases}
use Rattle.bench.proofs.Computing.{translating, counting, running}

pub refusal-cases : RefusalCases
unfolding translating counting running chart_p image_p bench_words chart_function
refusal-cases = record {
  r1-short = refl;
  r1-records = refl;
  r2-digit = refl;
  r2-feed = refl;
  r3 = refl;
  r4-kind = refl;
  r4-scheme = refl;
  r4-high = refl;
  r4-result = refl;
  r4-condition = refl;
  r4-mark = refl;
  r4-needless = refl;
  r5-ends = refl;
  r5-gap = refl;
  r6-none = refl;
  r6-other = refl;
  r6-begin = refl;
  r7-first = refl;
  r7-high = refl;
  r8 = refl;
  r9 = refl;
  r10-most = refl;
  r10 = refl;
  r11-mark = refl;
  r11-needless = refl;
  r11-next = refl;
  r11-schemes = refl;
  r11-labels = refl;
  r11-rows = refl;
  r11-handler-1 = refl;
  r11-handler-high = refl;
  r11-handler-fits = refl;
  r12-entry = refl;
  r12-label = refl;
  r12-row = refl;
  r13-entry = refl;
  r13-home = refl;
  r13-call = refl;
  r13-values = refl;
  r13-bit = refl;
  r13-next = refl;
  r14-none = refl;
  r14-high = refl;
  r15-depth = refl;
  r15-label = refl;
  r15-bottom = refl;
  r15-kept = refl;
  r15-above = refl;
  r15-filled = refl;
  r15-return = refl;
  r15-return-above = refl;
  r15-return-fits = refl;
  r15-handler-fits = refl;
  r16-read = refl;
  r16-run = refl;
  r17 = refl;
  r17-handler = refl;
  r18 = refl;
  r19-first = refl;
  r19-write = refl;
  r19-translate = refl;
  r19-second = refl;
  r19-after-5 = refl;
  r19-before-6 = refl;
  r20 = refl;
  r20-after-19 = refl;
  r20-none = refl;
}
