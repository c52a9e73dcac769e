-- Labels by their tags: the way along the links, and one more label.
use Rattle.std.proofs.Common.{ℕ, ◌+◌, ◌≤◌, ◌<◌, Bool, true, false, ◌≡◌, ◌∙◌, ap, List, arith, length, set, replicate, slice_index}
use Rattle.std.proofs.lemmas.List.{get_or-replicate, get_or-set_same, get_or-set_other}
use Rattle.words.proofs.lists.Tests.{split}
use Rattle.words.proofs.lists.Searches.{lowest-none}
use Rattle.text.specs.declared.frames.sizes.TheConstants.{LABELS}
use Rattle.image.proofs.Accepted.{fields-same}
use Rattle.tables.specs.Table.{table_label}
use Rattle.grouping.specs.inner.GroupingContracts.{has_same_fields_on}
use Rattle.grouping.specs.inner.Links.{tag_of, tag_on, Highest, Linked, Headed, first_same, FirstSame}
use Rattle.grouping.proofs.Rounds.{fields-alike}
use Rattle.grouping.proofs.Representatives.{same-lowest}
use Rattle.std.proofs.lemmas.Bool.Decides.{nat_tests}

module _ (b : List ℕ) where
  -- labels that hold the same have one tag
  tags-same : (m l : ℕ) → has_same_fields_on b m l ≡ true → tag_on b m ≡ tag_on b l
  tags-same m l e = ap tag_of (fields-same (table_label b m) (table_label b l) e)

  home-alone : (l : ℕ) → 1 ≤ l → has_same_fields_on b 0 l ≡ false
  home-alone l h = grind (arith, nat_tests)

  -- ---- along the links
  -- no label above m and below l holds the same as l
  pub record Along (l m : ℕ) : Type 0 where
    pub below : m < l
    pub own : 1 ≤ m → tag_on b m ≡ tag_on b l
    pub none : (k : ℕ) → m < k → k < l → has_same_fields_on b k l ≡ false

  other-tag : (k l m : ℕ) → (tag_on b k ≡ tag_on b l → k ≤ m) → m < k → has_same_fields_on b k l ≡ false
  other-tag k l m h g = search (arith, tags-same)

  pub along-start : (l m : ℕ) → Highest b l (tag_on b l) m → Along l m
  along-start l m h = record { below = h.below; own = h.own; none = λ k g a. other-tag k l m (h.most k a) g }

  module _ (links : List ℕ) (l m : ℕ) (linked : Linked b l links) (t : Along l m) (s : Bool) (p : s ≡ has_same_fields_on b m l)
      (some : 1 ≤ m) where
    pub along-on : s ≡ false → Along l (slice_index links m)
    along-on e = record {
      below = omega (arith, next.below, t.below);
      own = λ h. next.own h ∙ t.own some;
      none = none-on;
    }
      where
        next : Highest b m (tag_on b m) (slice_index links m)
        next = linked.at m some t.below

        none-on : (k : ℕ) → slice_index links m < k → k < l → has_same_fields_on b k l ≡ false
        none-on k h g = grind (arith, split k m, split m k, other-tag k l (slice_index links m), next.most k, t.own some, t.none k)

    pub along-found : (classes : List ℕ) → FirstSame b l classes → s ≡ true → slice_index classes m ≡ first_same b l
    along-found classes first e = grind (arith, same-lowest (l + 1) (has_same_fields_on b) (fields-alike (table_label b) (l + 1)) m l, first.at m t.below)

  pub along-over : (l m : ℕ) → 1 ≤ l → Along l m → m ≡ 0 → l ≡ first_same b l
  along-over l m low t e = grind (arith, lowest-none, home-alone)

  -- ---- one more label
  pub linked-none : (links : List ℕ) → Linked b 1 links
  linked-none links = record { at = λ k h g. absurd (omega arith) }

  pub headed-none : (heads : List ℕ) → heads ≡ replicate LABELS 0 → Headed b 1 heads
  headed-none heads e = record { at = at }
    where
      at : (tag : ℕ) → tag < LABELS → Highest b 1 tag (slice_index heads tag)
      at tag h =
          let z : slice_index heads tag ≡ 0 = ap (λ (xs : List ℕ). slice_index xs tag) e ∙ get_or-replicate LABELS tag 0 0 h in
          record { below = omega arith; own = λ g. absurd (omega arith); most = λ k g q. omega arith }

  module _ (l tag : ℕ) (heads : List ℕ) (t : Headed b l heads) (e : tag ≡ tag_on b l) (small : tag < LABELS) where
    pub headed-own : Highest b l (tag_on b l) (slice_index heads tag)
    headed-own = grind (arith, t.at tag small)

    pub linked-on : (links : List ℕ) → Linked b l links → l < length links → Linked b (l + 1) (set links l (slice_index heads tag))
    linked-on links s h = search (arith, get_or-set_same, split, get_or-set_other, headed-own)

    pub headed-on : length heads ≡ LABELS → Headed b (l + 1) (set heads tag l)
    headed-on h = search (arith, get_or-set_same, split, get_or-set_other)
