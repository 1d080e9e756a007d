-- Volume V is accepted: a witness that what is claimed of accepted and of sound images is claimed of something.
use Rattle.std.specs.Prelude.{◌≡◌, true, List, ℕ, ◌≤◌, length, Ok}
use Rattle.volume.specs.Opening.{open_volume}
use Rattle.verdict.specs.Verdict.{judge_answer}
use Rattle.sound.specs.Sound.{Sound}
use Rattle.sound.specs.Claims.{is_done}
use Rattle.volume_v.specs.VolumeV.{volume_v}

-- 01, Volume V: "N 100, home 1, H.FMAX 16"; "answer 0 DONE place 0".
pub record AcceptedV : Type 0 where
  pub opens : open_volume volume_v ≡ Ok tt
  pub sound : Sound volume_v
  -- With work areas of N and H.FMAX bytes or more, whatever they hold.
  pub accepted : (area headers : List ℕ) → 100 ≤ length area → 16 ≤ length headers → is_done (judge_answer volume_v area headers) ≡ true
