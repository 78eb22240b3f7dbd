-- The parts of a scrollbar's track.
use Rattle.std.specs.Prelude.{◌≡◌, ℕ, ◌+◌, ◌-◌, ◌*◌, ◌/◌, ◌<◌, ◌≤◌, ◌==◌, min, max, if◌then◌else◌}
use Rattle.tui_lists.specs.declared.scrollbar.parts.TrackParts.{TrackParts}

-- a / b rounded to the nearest whole number, with halves rounded upwards
abbrev pub rounded : ℕ → ℕ → ℕ
rounded a b = (a + b / 2) / b

-- the length of the thumb: the viewport's share of all that can be scrolled through, at least 1
abbrev pub thumb_of : ℕ → ℕ → ℕ → ℕ
thumb_of track viewport content = min (max (rounded (viewport * track) (content - 1 + viewport)) 1) track

-- the cells before the thumb: the position's share of the track, as far as the thumb leaves room
abbrev pub start_of : ℕ → ℕ → ℕ → ℕ → ℕ
start_of track viewport content position =
    min (rounded (min position (content - 1) * track) (content - 1 + viewport)) (track - thumb_of track viewport content)

-- the parts of the track: the cells before the thumb, those of the thumb, and those after it
unfoldable pub parts_of : ℕ → ℕ → ℕ → ℕ → TrackParts
parts_of track viewport content position = record {
  start = start_of track viewport content position;
  thumb = thumb_of track viewport content;
  end = track - start_of track viewport content position - thumb_of track viewport content;
}

-- how much of the content is visible at once; 0 stands for the length of the bar
abbrev pub viewport_in : ℕ → ℕ → ℕ
viewport_in size viewport = if viewport == 0 then size else viewport

-- The parts of a track of at least 1 cell in a bar of `size` cells, for a content of at least 1. They add up to the
-- track. The thumb has at least 1 cell. The number of cells before it is 0 at position 0, and never decreases as the
-- position grows. From the last position on, no cell is after the thumb.
pub record ThumbFollows (track size viewport content : ℕ) : Type 0 where
  pub sum : (position : ℕ) → let p = parts_of track (viewport_in size viewport) content position in p.start + p.thumb + p.end ≡ track
  pub some : (position : ℕ) → 0 < (parts_of track (viewport_in size viewport) content position).thumb
  pub first : (parts_of track (viewport_in size viewport) content 0).start ≡ 0
  pub order : (position later : ℕ) → position ≤ later →
      (parts_of track (viewport_in size viewport) content position).start ≤ (parts_of track (viewport_in size viewport) content later).start
  pub last : (position : ℕ) → content ≤ position + 1 →
      let p = parts_of track (viewport_in size viewport) content position in p.start + p.thumb ≡ track

-- the laws of the thumb, for each track
abbrev pub ThumbLaws : Type 0
ThumbLaws = (track size viewport content : ℕ) → 0 < track → track ≤ size → 0 < content → ThumbFollows track size viewport content
