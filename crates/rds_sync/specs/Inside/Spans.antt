-- Items as they are kept, by the spans of their runs: which items spans give, and where among them one is found. Cited by the bodies below
-- `Items`, `IndexedItems` and `ItemIter`, and by no public call.
use Rattle.std.specs.Prelude.{◌≡◌, ℕ, ◌+◌, ◌-◌, ◌<◌, ◌≤◌, List, [], ◌∷◌, ◌++◌, All, drop, length, take}
use Rattle.rds_stream.specs.Recording.{Signal, length_of}
use Rattle.rds_sync.specs.{declared.span.Start.Start, declared.item.Item.Item, declared.span.Span.Span, declared.span.Span.TheVariants.Run, declared.span.Span.TheVariants.End, Decoding.ItemsOf, Lawful.IsLawful, Ranges.IsInRange, Rules.RuleNumbers, Step.run, Step.items_of_end}

module _ (b : Signal) (rules : RuleNumbers) where
  -- the items of a span
  abbrev pub items_of : Span → List Item
  items_of (Run place state to passed items) = drop passed (run b rules state place (to - place)).1
  items_of (End state) = items_of_end b rules state

  -- the items of the spans, one after the other
  abbrev pub items_in : List Span → List Item
  items_in [] = []
  items_in (span ∷ spans) = items_of span ++ items_in spans

  -- it is of a run that can be made, and says how many items that gives
  abbrev pub IsSpan : Span → Type 0
  IsSpan (Run place state to passed items) =
      IsLawful rules place state × (place ≤ to) × (to ≤ length_of b)
      × (passed + items ≡ length (run b rules state place (to - place)).1)
  IsSpan (End state) = IsLawful rules (length_of b) state

  -- a span of the items of another, except the first n
  pub record IsPast (span : Span) (n : ℕ) (rest : Span) : Type 0 where
    pub is_span : IsSpan rest
    pub items : items_of rest ≡ drop n (items_of span)

  -- the spans and the number of their items
  pub record AreSpans (spans : List Span) (len : ℕ) : Type 0 where
    pub all : All IsSpan spans
    pub count : len ≡ length (items_in spans)
    pub range : IsInRange rules

  -- the spans from that on which holds item number `from`, and its number there
  pub record IsAt (spans : List Span) (from : ℕ) (rest : List Span) (left : ℕ) : Type 0 where
    pub same : drop left (items_in rest) ≡ drop from (items_in spans)
    pub passed : length (items_in rest) + from ≡ length (items_in spans) + left
    pub all : All IsSpan rest

  -- an item's number in the first of these spans, if there is one
  abbrev pub IsInFirst : List Span → ℕ → Type 0
  IsInFirst spans left = (span : Span) (others : List Span) → spans ≡ span ∷ others
      → left < length (items_of span)

  -- a span that is one of these, or would be the next, and how many items come before it
  pub record IsStart (spans : List Span) (start : Start) : Type 0 where
    pub within : start.span ≤ length spans
    pub before : start.before ≡ length (items_in (take start.span spans))

  -- the spans after those before, and the items that they give
  pub record AreBehind (before after : List Span) (items : List Item) : Type 0 where
    pub more : List Span
    pub same : after ≡ before ++ more
    pub all : All IsSpan more
    pub given : items_in more ≡ items

-- the spans from that on which holds item number `from` of a list, and its number there
pub record IsFound (items : ItemsOf) (from : ℕ) (rest : List Span) (left : ℕ) : Type 0 where
  pub same : drop left (items_in items.source items.rules rest) ≡ drop from items.list
  pub passed : length (items_in items.source items.rules rest) + from ≡ length items.list + left
  pub all : All (IsSpan items.source items.rules) rest
