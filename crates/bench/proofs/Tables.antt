-- The images of a few charts, computed once: each is what the translator writes, passes the check and holds this table.
use Rattle.std.proofs.Common.{◌≡◌, refl, List, [], ◌∷◌, ℕ}
use Rattle.text.specs.frames.Frame.{contents}
use Rattle.text.specs.frames.Verdict.{fine}
use Rattle.text.specs.frames.Answer.{buffer_on}
use Rattle.image.specs.Image.{Image, Label, label_with, row}
use Rattle.image.specs.Decode.{decoded_image}
use Rattle.image.specs.Check.{image_verdict}
use Rattle.chart_rows.specs.Labels.{home_label, return_label}
use Rattle.translator.specs.Entry.{translate}
use Rattle.bench.specs.Bench.{lines, chart_p, image_p, chart_home, chart_function, chart_bore, chart_again, chart_stops, image_stops}
use Rattle.bench.specs.Handler.{chart_handler, image_handler}
use Rattle.bench.specs.Swap.{chart_swap, image_swap}
use Rattle.bench.specs.Patched.{chart_plain, image_plain, image_special, image_equal}
use Rattle.bench.proofs.Computing.{translating, checking}

-- an image passes the check and holds this table
pub record Holds (image : List ℕ) (table : Image) : Type 0 where
  pub passes : image_verdict image ≡ fine
  pub decodes : decoded_image (contents image) ≡ table

-- and it is that of a chart
pub record TranslatesTo (chart image : List ℕ) (table : Image) : Type 0 where
  pub translated : (out : List ℕ) → translate chart out ≡ buffer_on fine 1 (λ _. image) out
  pub passes : image_verdict image ≡ fine
  pub decodes : decoded_image (contents image) ≡ table

pub held : {chart image : List ℕ} {table : Image} → TranslatesTo chart image table → Holds image table
held known = record { passes = known.passes; decodes = known.decodes }

-- ---- chart P
unfoldable pub table_p : Image
table_p = record {
  handler = 0;
  entries = 2 ∷ 3 ∷ [];
  labels = home_label ∷ return_label ∷ label_with 1 2 1 0 1 ∷ label_with 0 0 2 0 0 ∷ label_with 1 2 2 0 2 ∷ [];
  rows = row 2 0 0 2 0 ∷ row 3 1 0 2 1 ∷ row 3 1 1 2 4 ∷ row 4 0 0 2 1 ∷ [];
}

pub of-P : TranslatesTo chart_p image_p table_p
unfolding translating checking chart_p image_p table_p
of-P = record { translated = λ out. refl; passes = refl; decodes = refl }

-- ---- Begin to End alone
unfoldable pub image_home : List ℕ
image_home = lines ("0F010100000000000000EF" ∷ "10010000000000000000EF" ∷ "11000400010000000000EA" ∷ "11010300000000000000EB" ∷ [])

unfoldable pub table_home : Image
table_home = record { handler = 0; entries = 0 ∷ []; labels = home_label ∷ return_label ∷ []; rows = [] }

pub of-home : TranslatesTo chart_home image_home table_home
unfolding translating checking chart_home image_home table_home
of-home = record { translated = λ out. refl; passes = refl; decodes = refl }

-- ---- the chart of B10
unfoldable pub image_function : List ℕ
image_function = lines (
    "0F020400040000000000E7" ∷ "10010200000000000000ED" ∷ "10020400000000000000EA" ∷ "11000400010000000000EA"
    ∷ "11010300000000000000EB" ∷ "11020202010000000000E8" ∷ "11030000010000000001EA" ∷ "11040000020200000000E7"
    ∷ "12020000000000000000EC" ∷ "12020000000001030000E8" ∷ "12030000000002000000E9" ∷ "12040000000002010000E7" ∷ [])

unfoldable pub table_function : Image
table_function = record {
  handler = 0;
  entries = 2 ∷ 4 ∷ [];
  labels = home_label ∷ return_label ∷ label_with 2 2 1 0 0 ∷ label_with 0 0 1 0 1 ∷ label_with 0 0 2 2 0 ∷ [];
  rows = row 2 0 0 0 0 ∷ row 2 0 0 1 3 ∷ row 3 0 0 2 0 ∷ row 4 0 0 2 1 ∷ [];
}

pub of-function : TranslatesTo chart_function image_function table_function
unfolding translating checking chart_function image_function table_function
of-function = record { translated = λ out. refl; passes = refl; decodes = refl }

-- ---- an operation that calls scheme 2 and, after it, a condition: on 0 End, on 1 an operation with mask 1
unfoldable pub chart_choice : List ℕ
chart_choice = lines (
    "00010001000000000000FE" ∷ "02010202000000000000F9" ∷ "03010004030000000000F5" ∷ "02010004000000000001F8"
    ∷ "01010000000000000000FE" ∷ "00020006000000000000F8" ∷ "02020007000000000000F5" ∷ "01020000000000000000FD" ∷ [])

unfoldable pub image_choice : List ℕ
image_choice = lines (
    "0F020400040000000000E7" ∷ "10010200000000000000ED" ∷ "10020400000000000000EA" ∷ "11000400010000000000EA"
    ∷ "11010300000000000000EB" ∷ "11020102010000000000E9" ∷ "11030000010000000001EA" ∷ "11040000020000000000E9"
    ∷ "12020001000002000000E9" ∷ "12020001000102030000E5" ∷ "12030000000002000000E9" ∷ "12040000000002010000E7" ∷ [])

unfoldable pub table_choice : Image
table_choice = record {
  handler = 0;
  entries = 2 ∷ 4 ∷ [];
  labels = home_label ∷ return_label ∷ label_with 1 2 1 0 0 ∷ label_with 0 0 1 0 1 ∷ label_with 0 0 2 0 0 ∷ [];
  rows = row 2 1 0 2 0 ∷ row 2 1 1 2 3 ∷ row 3 0 0 2 0 ∷ row 4 0 0 2 1 ∷ [];
}

pub of-choice : TranslatesTo chart_choice image_choice table_choice
unfolding translating checking chart_choice image_choice table_choice
of-choice = record { translated = λ out. refl; passes = refl; decodes = refl }

-- ---- the bore test
unfoldable pub image_bore : List ℕ
image_bore = lines (
    "0F020600070000000000E2" ∷ "10010200000000000000ED" ∷ "10020500000000000000E9" ∷ "11000400010000000000EA"
    ∷ "11010300000000000000EB" ∷ "11020202010000000000E8" ∷ "11030000010000000002E9" ∷ "11040000010000000001E9"
    ∷ "11050000020000000000E8" ∷ "11060000020200000000E5" ∷ "12020000000000030000E9" ∷ "12020000000001040000E7"
    ∷ "12030000000002000000E9" ∷ "12040000000002000000E8" ∷ "12050001000002010000E5" ∷ "12050001000102060000DF"
    ∷ "12060000000002010000E5" ∷ [])

unfoldable pub table_bore : Image
table_bore = record {
  handler = 0;
  entries = 2 ∷ 5 ∷ [];
  labels = home_label ∷ return_label ∷ label_with 2 2 1 0 0 ∷ label_with 0 0 1 0 2 ∷ label_with
      0 0 1 0 1 ∷ label_with 0 0 2 0 0 ∷ label_with 0 0 2 2 0 ∷ [];
  rows = row 2 0 0 0 3 ∷ row 2 0 0 1 4 ∷ row 3 0 0 2 0 ∷ row 4 0 0 2 0 ∷ row 5 1 0 2 1 ∷ row 5 1 1 2 6 ∷ row 6 0 0 2 1 ∷ [];
}

pub of-bore : TranslatesTo chart_bore image_bore table_bore
unfolding translating checking chart_bore image_bore table_bore
of-bore = record { translated = λ out. refl; passes = refl; decodes = refl }

-- ---- a scheme that calls itself
unfoldable pub image_again : List ℕ
image_again = lines (
    "0F020400030000000000E8" ∷ "10010200000000000000ED" ∷ "10020300000000000000EB" ∷ "11000400010000000000EA"
    ∷ "11010300000000000000EB" ∷ "11020102010000000000E9" ∷ "11030000020200000000E8" ∷ "11040102020200000000E4"
    ∷ "12020000000002000000EA" ∷ "12030000000002040000E5" ∷ "12040000000002010000E7" ∷ [])

unfoldable pub table_again : Image
table_again = record {
  handler = 0;
  entries = 2 ∷ 3 ∷ [];
  labels = home_label ∷ return_label ∷ label_with 1 2 1 0 0 ∷ label_with 0 0 2 2 0 ∷ label_with 1 2 2 2 0 ∷ [];
  rows = row 2 0 0 2 0 ∷ row 3 0 0 2 4 ∷ row 4 0 0 2 1 ∷ [];
}

pub of-again : TranslatesTo chart_again image_again table_again
unfolding translating checking chart_again image_again table_again
of-again = record { translated = λ out. refl; passes = refl; decodes = refl }

-- ---- a chart that tells which nodes stop
unfoldable pub table_stops : Image
table_stops = record {
  handler = 0;
  entries = 2 ∷ 7 ∷ [];
  labels = home_label ∷ return_label ∷ label_with 2 2 1 0 0 ∷ label_with 0 0 1 0 2 ∷ label_with 0 0 1 0 1 ∷ label_with 0 0 2 2 4
      ∷ label_with 0 0 2 1 8 ∷ label_with 0 0 2 0 0 ∷ [];
  rows = row 2 0 0 0 3 ∷ row 2 0 0 1 4 ∷ row 3 0 0 2 0 ∷ row 4 0 0 2 0 ∷ row 5 1 0 2 5 ∷ row 5 1 1 2 6 ∷ row 6 0 0 2 1 ∷ row 7 1 0 2 5
      ∷ row 7 1 1 2 6 ∷ [];
}

pub of-stops : TranslatesTo chart_stops image_stops table_stops
unfolding translating checking chart_stops image_stops table_stops
of-stops = record { translated = λ out. refl; passes = refl; decodes = refl }

-- ---- a chart with a handler
unfoldable pub table_handler : Image
table_handler = record {
  handler = 3;
  entries = 2 ∷ 4 ∷ 6 ∷ [];
  labels = home_label ∷ return_label ∷ label_with 2 2 1 0 0 ∷ label_with 1 3 1 0 1 ∷ label_with 0 0 2 0 0 ∷ label_with 1 2 2 2 2
      ∷ label_with 0 0 3 2 4 ∷ label_with 1 2 3 2 8 ∷ [];
  rows = row 2 2 0 0 0 ∷ row 2 2 2 0 3 ∷ row 2 2 0 1 0 ∷ row 2 2 2 1 3 ∷ row 3 0 0 2 0 ∷ row
      4 1 0 2 1 ∷ row 4 1 1 2 5 ∷ row 5 0 0 2 1 ∷ row 6 1 0 2 1
      ∷ row 6 1 1 2 7 ∷ row 7 0 0 2 1 ∷ [];
}

pub of-handler : TranslatesTo chart_handler image_handler table_handler
unfolding translating checking chart_handler image_handler table_handler
of-handler = record { translated = λ out. refl; passes = refl; decodes = refl }

-- ---- a chart whose schemes are swapped
unfoldable pub table_swap : Image
table_swap = record {
  handler = 4;
  entries = 2 ∷ 5 ∷ 6 ∷ 7 ∷ [];
  labels = home_label ∷ return_label ∷ label_with 1 2 1 0 1 ∷ label_with 2 2 1 0 0 ∷ label_with
      0 0 1 0 2 ∷ label_with 0 0 2 1 4 ∷ label_with 0 0 3 2 8
      ∷ label_with 1 3 4 0 16 ∷ [];
  rows = row 2 0 0 2 3 ∷ row 3 0 0 0 0 ∷ row 3 0 0 1 4 ∷ row 4 0 0 2 0 ∷ row 5 0 0 2 1 ∷ row 6 0 0 2 1 ∷ row 7 0 0 2 1 ∷ [];
}

pub of-swap : TranslatesTo chart_swap image_swap table_swap
unfolding translating checking chart_swap image_swap table_swap
of-swap = record { translated = λ out. refl; passes = refl; decodes = refl }

-- ---- function 2, on 0 End, on 1 an operation with mask 1; scheme 2: one with mask 2 that calls number 2;
-- scheme 3: one with mask 4 that writes 1
unfoldable pub chart_inner : List ℕ
chart_inner = lines (
    "00010001000000000000FE" ∷ "04010203020000000000F4" ∷ "02010003000000000001F9" ∷ "01010000000000000000FE"
    ∷ "00020005000000000000F9" ∷ "02020206000000000002F2" ∷ "01020000000000000000FD" ∷ "00030008000000000000F5"
    ∷ "02030009000200000004EC" ∷ "01030000000000000000FC" ∷ [])

unfoldable pub image_inner : List ℕ
image_inner = lines (
    "0F030500050000000000E4" ∷ "10010200000000000000ED" ∷ "10020400000000000000EA" ∷ "10030500000000000000E8"
    ∷ "11000400010000000000EA" ∷ "11010300000000000000EB" ∷ "11020202010000000000E8" ∷ "11030000010000000001EA"
    ∷ "11040102020000000002E4" ∷ "11050000030200000004E1" ∷ "12020000000000000000EC" ∷ "12020000000001030000E8"
    ∷ "12030000000002000000E9" ∷ "12040000000002010000E7" ∷ "12050000000002010000E6" ∷ [])

unfoldable pub table_inner : Image
table_inner = record {
  handler = 0;
  entries = 2 ∷ 4 ∷ 5 ∷ [];
  labels = home_label ∷ return_label ∷ label_with 2 2 1 0 0 ∷ label_with 0 0 1 0 1 ∷ label_with 1 2 2 0 2 ∷ label_with 0 0 3 2 4 ∷ [];
  rows = row 2 0 0 0 0 ∷ row 2 0 0 1 3 ∷ row 3 0 0 2 0 ∷ row 4 0 0 2 1 ∷ row 5 0 0 2 1 ∷ [];
}

pub of-inner : TranslatesTo chart_inner image_inner table_inner
unfolding translating checking chart_inner image_inner table_inner
of-inner = record { translated = λ out. refl; passes = refl; decodes = refl }

-- ---- a chart, and its image patched once and twice
abbrev labels_plain : List Label
labels_plain = home_label ∷ return_label ∷ label_with 0 0 1 0 1 ∷ label_with 0 0 1 0 2 ∷ label_with 2 2 1 0 0 ∷ label_with 0 0 2 2 0 ∷ []

unfoldable pub table_plain : Image
table_plain = record {
  handler = 0;
  entries = 2 ∷ 5 ∷ [];
  labels = labels_plain;
  rows = row 2 1 0 2 3 ∷ row 2 1 1 2 4 ∷ row 3 0 0 2 0 ∷ row 4 0 0 0 0 ∷ row 4 0 0 1 3 ∷ row 5 0 0 2 1 ∷ [];
}

pub of-plain : TranslatesTo chart_plain image_plain table_plain
unfolding translating checking chart_plain image_plain table_plain
of-plain = record { translated = λ out. refl; passes = refl; decodes = refl }

unfoldable pub table_special : Image
table_special = record {
  handler = 0;
  entries = 2 ∷ 5 ∷ [];
  labels = labels_plain;
  rows = row 2 1 0 2 3 ∷ row 2 6 0 2 0 ∷ row 2 1 1 2 4 ∷ row 3 0 0 2 0 ∷ row 4 0 0 0 0 ∷ row 4 0 0 1 3 ∷ row 5 0 0 2 1 ∷ [];
}

pub of-special : Holds image_special table_special
unfolding checking image_special table_special
of-special = record { passes = refl; decodes = refl }

unfoldable pub table_equal : Image
table_equal = record {
  handler = 0;
  entries = 2 ∷ 5 ∷ [];
  labels = labels_plain;
  rows = row 2 1 0 2 3 ∷ row 2 6 0 2 0 ∷ row 2 1 1 2 4 ∷ row 2 3 1 2 3 ∷ row 3 0 0 2 0 ∷ row 4
      0 0 0 0 ∷ row 4 0 0 1 3 ∷ row 4 0 0 2 2 ∷ row 5 0 0 2 1 ∷ [];
}

pub of-equal : Holds image_equal table_equal
unfolding checking image_equal table_equal
of-equal = record { passes = refl; decodes = refl }
