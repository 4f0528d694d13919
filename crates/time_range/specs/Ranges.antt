-- Time ranges: what keys and their values stand for.
use Rattle.std.specs.Prelude.{◌≡◌, ℕ, ◌⊎◌, Option, Some, None, Result, Ok, Err, List, [], ◌++◌, option_and_then}
use Rattle.site_base.specs.Data.{Data, null, boolean, number, string, list, dict, Pairs, no_pairs, pair}
use Rattle.site_base.specs.Lawful.{IsBefore, AreRising}
use Rattle.site_base.specs.declared.day.Day.{Day}
use Rattle.site_base.specs.declared.day_span.DaySpan.{DaySpan}
use Rattle.time_range.specs.declared.range_fault.RangeFault.{RangeFault}
use Rattle.time_range.specs.declared.range_fault.RangeFault.TheVariants.{BadRange, OutOfMemory}
use Rattle.time_range.specs.Days.{Names, day_of}
use Rattle.time_range.specs.Spans.{AreSpans, spans_of}

-- a value from which ranges are read: null, or a dictionary
abbrev pub CanRead : Data → Type 0
CanRead null = Unit {0}
CanRead (boolean b) = ⊥
CanRead (number n) = ⊥
CanRead (string text) = ⊥
CanRead (list items) = ⊥
CanRead (dict pairs) = Unit {0}

-- if it is a dictionary, its keys rise
abbrev pub HasRisingKeys : Data → Type 0
HasRisingKeys null = Unit {0}
HasRisingKeys (boolean b) = Unit {0}
HasRisingKeys (number n) = Unit {0}
HasRisingKeys (string text) = Unit {0}
HasRisingKeys (list items) = Unit {0}
HasRisingKeys (dict pairs) = AreRising pairs

-- a key and its value are these spans: the key names their day, and the value is the text that lists them
abbrev pub IsRange : List ℕ → Data → List DaySpan → Type 0
IsRange key value spans =
    (day : Day) × (text : List ℕ) × Names key day × (value ≡ string text) × AreSpans text day spans

-- the spans of each key in turn
abbrev pub AreRanges : Pairs → List DaySpan → Type 0
AreRanges no_pairs spans = spans ≡ []
AreRanges (pair key value more) spans =
    (front : List DaySpan) × (rest : List DaySpan) × IsRange key value front × AreRanges more rest × (spans ≡ front ++ rest)

-- a key and its value are no range
abbrev pub IsBad : List ℕ → Data → Type 0
IsBad key value = (spans : List DaySpan) → IsRange key value spans → ⊥

-- a key stands there with this value
abbrev pub Has : Pairs → List ℕ → Data → Type 0
Has no_pairs key value = ⊥
Has (pair k v more) key value = ((k ≡ key) × (v ≡ value)) ⊎ Has more key value

-- a key is bad, and none before it in byte order is
pub record IsFirstBad (pairs : Pairs) (key : List ℕ) : Type 0 where
  pub value : Data
  pub there : Has pairs key value
  pub bad : IsBad key value
  pub first : (other : List ℕ) (v : Data) → Has pairs other v → IsBefore other key → (spans : List DaySpan) × IsRange other v spans

-- what is read from a value: the spans of a dictionary, and none from null
abbrev pub Holds : Data → List DaySpan → Type 0
Holds null spans = spans ≡ []
Holds (boolean b) spans = ⊥
Holds (number n) spans = ⊥
Holds (string text) spans = ⊥
Holds (list items) spans = ⊥
Holds (dict pairs) spans = AreRanges pairs spans

-- the key for which a value is refused
abbrev pub Refuses : Data → List ℕ → Type 0
Refuses null key = ⊥
Refuses (boolean b) key = ⊥
Refuses (number n) key = ⊥
Refuses (string text) key = ⊥
Refuses (list items) key = ⊥
Refuses (dict pairs) key = IsFirstBad pairs key

-- The same, calculated.

-- the spans of a day that a value lists
abbrev pub value_spans : Day → Data → Option (List DaySpan)
value_spans day null = None
value_spans day (boolean b) = None
value_spans day (number n) = None
value_spans day (string text) = spans_of day text
value_spans day (list items) = None
value_spans day (dict pairs) = None

abbrev pub range_of : List ℕ → Data → Option (List DaySpan)
range_of key value = option_and_then (λ day. value_spans day value) (day_of key)

-- spans in front of what is read
abbrev pub with_front : List DaySpan → Result (List DaySpan) (List ℕ) → Result (List DaySpan) (List ℕ)
with_front front (Ok spans) = Ok (front ++ spans)
with_front front (Err key) = Err key

-- the spans of a key, and then the others; the key where it has none
abbrev pub with_range : List ℕ → Option (List DaySpan) → Result (List DaySpan) (List ℕ) → Result (List DaySpan) (List ℕ)
with_range key None others = Err key
with_range key (Some front) others = with_front front others

-- the spans of all keys, or the first key that is bad
unfoldable pub ranges_of : Pairs → Result (List DaySpan) (List ℕ)
ranges_of no_pairs = Ok []
ranges_of (pair key value more) = with_range key (range_of key value) (ranges_of more)

abbrev pub ranges_in : Data → Result (List DaySpan) (List ℕ)
ranges_in null = Ok []
ranges_in (boolean b) = Ok []
ranges_in (number n) = Ok []
ranges_in (string text) = Ok []
ranges_in (list items) = Ok []
ranges_in (dict pairs) = ranges_of pairs

-- a call gives what is read, unless memory runs out
abbrev pub Gives : Result (List DaySpan) RangeFault → Result (List DaySpan) (List ℕ) → Type 0
Gives (Ok spans) read = read ≡ Ok spans
Gives (Err (BadRange key)) read = read ≡ Err key
Gives (Err OutOfMemory) read = Unit {0}
