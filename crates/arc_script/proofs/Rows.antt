-- Worked scripts: what is written for each input.
use Rattle.std.proofs.Common.{List, [], ◌∷◌, ◌++◌, ℕ, refl}
use Rattle.std.specs.Prelude.{codes, map}
use Rattle.std.specs.Fmt.{digits}
use Rattle.std.specs.List.{AllByRecursion}
use Rattle.arc_block.specs.Table.{empty_table}
use Rattle.arc_script.specs.declared.layout.ScriptLayout.TheVariants.{Arc}
use Rattle.arc_script.specs.Script.{ended, last_line, HasNoFeed, IsReplyText}
use Rattle.arc_forms.specs.Text.{answer_text}
use Rattle.arc_forms.specs.Reading.{operands_of, command_of}
use Rattle.arc_script.proofs.Lines.{script, script_runs, no_feed, no_feeds}

-- whole lines, and a rest behind the last feed
abbrev pub input_of : List (List ℕ) → List ℕ → List ℕ
input_of whole rest = ended whole ++ rest

script_text : (whole : List (List ℕ)) (rest : List ℕ) → AllByRecursion HasNoFeed whole
    → HasNoFeed rest
    → IsReplyText Arc (input_of whole rest)
    (ended (map answer_text (script Arc empty_table (whole ++ last_line rest)).0))
script_text whole rest each last = record {
  lines = whole ++ last_line rest;
  replies = (script Arc empty_table (whole ++ last_line rest)).0;
  after = (script Arc empty_table (whole ++ last_line rest)).1;
  cut = record { whole = whole; rest = rest; cut = refl; each = each; last = last; are = refl };
  run = script_runs Arc empty_table (whole ++ last_line rest);
  written = refl;
}

-- a window, a part of it, and what the part shows
abbrev pub part_lines : List (List ℕ)
part_lines = codes "slice 48656c6c6f20776f726c64" ∷ codes "sub 0 0 5" ∷ codes "show 1" ∷ []

pub part_row : IsReplyText Arc (input_of part_lines [])
    (ended (codes "h0" ∷ codes "h1" ∷ codes "48656c6c6f" ∷ []))
unfolding digits command_of operands_of
part_row = script_text part_lines [] (no_feeds part_lines refl) (no_feed [] refl)

-- no window, a line that is bad, and a last line with no feed
abbrev pub bad_lines : List (List ℕ)
bad_lines = codes "sub 0 0 1" ∷ codes "slice 0A" ∷ codes "slice -" ∷ []

pub bad_row : IsReplyText Arc (input_of bad_lines (codes "show 0"))
    (ended (codes "no window" ∷ codes "bad line" ∷ codes "h0" ∷ codes "-" ∷ []))
unfolding digits command_of operands_of
bad_row = script_text bad_lines (codes "show 0") (no_feeds bad_lines refl)
    (no_feed (codes "show 0") refl)

-- ranges that aren't one of the window, and a window after its end
abbrev pub range_lines : List (List ℕ)
range_lines = codes "slice 0102" ∷ codes "sub 0 0 3" ∷ codes "sub 0 2 1" ∷ codes "sub 0 1 1" ∷ codes
    "show 1" ∷ codes "drop 0" ∷ codes "show 0" ∷ []

pub range_row : IsReplyText Arc
    (input_of range_lines [])
    (ended (codes "h0" ∷ codes "out of range" ∷ codes "invalid range" ∷ codes "h1" ∷ codes
    "-" ∷ codes "ok" ∷ codes "no window" ∷ []))
unfolding digits command_of operands_of
range_row = script_text range_lines [] (no_feeds range_lines refl) (no_feed [] refl)

-- a clone, which shows the same bytes, also after its source has gone
abbrev pub clone_lines : List (List ℕ)
clone_lines = codes "slice 41" ∷ codes "clone 0" ∷ codes "show 1" ∷ codes "drop 0" ∷ codes
    "show 1" ∷ codes "clone 0" ∷ []

pub clone_row : IsReplyText Arc
    (input_of clone_lines [])
    (ended (codes "h0" ∷ codes "h1" ∷ codes "41" ∷ codes "ok" ∷ codes "41" ∷ codes
    "no window" ∷ []))
unfolding digits command_of operands_of
clone_row = script_text clone_lines [] (no_feeds clone_lines refl) (no_feed [] refl)

-- a window that is alone on its block, has another owner beside it, and is alone again
abbrev pub unique_lines : List (List ℕ)
unique_lines = codes "slice 41" ∷ codes "uniq 0" ∷ codes "clone 0" ∷ codes "uniq 0" ∷ codes
    "drop 1" ∷ codes "uniq 0" ∷ []

pub unique_row : IsReplyText Arc
    (input_of unique_lines [])
    (ended (codes "h0" ∷ codes "yes" ∷ codes "h1" ∷ codes "no" ∷ codes "ok" ∷ codes "yes" ∷ []))
unfolding digits command_of operands_of
unique_row = script_text unique_lines [] (no_feeds unique_lines refl) (no_feed [] refl)

-- a window over static bytes and a part of it, each of which is taken
abbrev pub static_lines : List (List ℕ)
static_lines = codes "static" ∷ codes "sub 0 0 2" ∷ codes "takestatic 1" ∷ codes "uniq 0" ∷ codes
    "takestatic 0" ∷ codes "show 0" ∷ []

pub static_row : IsReplyText Arc
    (input_of static_lines [])
    (ended (codes "h0" ∷ codes "h1" ∷ codes "6162" ∷ codes "no" ∷ codes "61626364" ∷ codes
    "no window" ∷ []))
unfolding digits command_of operands_of
static_row = script_text static_lines [] (no_feeds static_lines refl) (no_feed [] refl)

-- a window on a block, which stays
abbrev pub refused_lines : List (List ℕ)
refused_lines = codes "slice 0a" ∷ codes "takestatic 0" ∷ codes "show 0" ∷ []

pub refused_row : IsReplyText Arc (input_of refused_lines [])
    (ended (codes "h0" ∷ codes "refused" ∷ codes "0a" ∷ []))
unfolding digits command_of operands_of
refused_row = script_text refused_lines [] (no_feeds refused_lines refl) (no_feed [] refl)

-- a window that is written: cut and shown, but not cloned, split or asked whether it is alone
abbrev pub writer_lines : List (List ℕ)
writer_lines = codes "mslice 01020304" ∷ codes "clone 0" ∷ codes "sub 0 9 9" ∷ codes
    "adv 0 1" ∷ codes "trunc 0 2" ∷ codes "show 0" ∷ codes "uniq 0" ∷ codes "drop 0" ∷ []

pub writer_row : IsReplyText Arc
    (input_of writer_lines [])
    (ended (codes "h0" ∷ codes "kind" ∷ codes "kind" ∷ codes "ok" ∷ codes "ok" ∷ codes
    "0203" ∷ codes "kind" ∷ codes "ok" ∷ []))
unfolding digits command_of operands_of
writer_row = script_text writer_lines [] (no_feeds writer_lines refl) (no_feed [] refl)

-- a window that becomes one that is written once it is alone, and how many places writers have
abbrev pub places_lines : List (List ℕ)
places_lines = codes "slice 0102" ∷ codes "clone 0" ∷ codes "room 0" ∷ codes "mut 0" ∷ codes
    "drop 1" ∷ codes "mut 0" ∷ codes "room 0" ∷ codes "cap 8" ∷ codes "room 2" ∷ codes "new" ∷ codes
    "room 3" ∷ []

pub places_row : IsReplyText Arc
    (input_of places_lines [])
    (ended (codes "h0" ∷ codes "h1" ∷ codes "kind" ∷ codes "refused" ∷ codes "ok" ∷ codes
    "ok" ∷ codes "2" ∷ codes "h2" ∷ codes "8" ∷ codes "h3" ∷ codes "0" ∷ []))
unfolding digits command_of operands_of
places_row = script_text places_lines [] (no_feeds places_lines refl) (no_feed [] refl)

-- a writer that is cut in front: its block grows by the places that are needed and those in front
abbrev pub growth_lines : List (List ℕ)
growth_lines = codes "mslice 0102030405060708" ∷ codes "adv 0 3" ∷ codes "push 0 09" ∷ codes
    "res 0 7" ∷ codes "room 0" ∷ codes "res 0 8" ∷ codes "room 0" ∷ []

pub growth_row : IsReplyText Arc
    (input_of growth_lines [])
    (ended (codes "h0" ∷ codes "ok" ∷ codes "ok" ∷ codes "ok" ∷ codes "13" ∷ codes "ok" ∷ codes
    "29" ∷ []))
unfolding digits command_of operands_of
growth_row = script_text growth_lines [] (no_feeds growth_lines refl) (no_feed [] refl)

-- a writer without items has all places of its block again, and no more
abbrev pub reclaim_lines : List (List ℕ)
reclaim_lines = codes "cap 8" ∷ codes "ext 0 010203" ∷ codes "adv 0 3" ∷ codes "room 0" ∷ codes
    "rec 0 8" ∷ codes "room 0" ∷ codes "rec 0 9" ∷ []

pub reclaim_row : IsReplyText Arc
    (input_of reclaim_lines [])
    (ended (codes "h0" ∷ codes "ok" ∷ codes "ok" ∷ codes "5" ∷ codes "yes" ∷ codes "8" ∷ codes
    "no" ∷ []))
unfolding digits command_of operands_of
reclaim_row = script_text reclaim_lines [] (no_feeds reclaim_lines refl) (no_feed [] refl)

-- a writer that is frozen, cloned, and written again once it is alone
abbrev pub frozen_lines : List (List ℕ)
frozen_lines = codes "mslice 0102" ∷ codes "freeze 0" ∷ codes "push 0 03" ∷ codes "clone 0" ∷ codes
    "mut 0" ∷ codes "drop 1" ∷ codes "mut 0" ∷ codes "push 0 03" ∷ codes "show 0" ∷ []

pub frozen_row : IsReplyText Arc
    (input_of frozen_lines [])
    (ended (codes "h0" ∷ codes "ok" ∷ codes "kind" ∷ codes "h1" ∷ codes "refused" ∷ codes
    "ok" ∷ codes "ok" ∷ codes "ok" ∷ codes "010203" ∷ []))
unfolding digits command_of operands_of
frozen_row = script_text frozen_lines [] (no_feeds frozen_lines refl) (no_feed [] refl)
