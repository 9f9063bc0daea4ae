-- What an image is, as those ask it who build from it.
use Rattle.mq_calls.specs.declared.image.Image.{Image}
use Rattle.mq_calls.specs.Recovery.{IsImage}
use Rattle.mq_rebuild.specs.Rebuilt.{AreOnce, IsRead}

pub objects_are : (i : Image) → IsImage i → AreOnce i.definitions.objects
objects_are i h = h.once

pub shelves_are : (i : Image) → IsImage i → IsRead i.definitions i.shelves
shelves_are i h = record {
  named = h.named;
  lanes = λ k s lt j row less. ((h.rows k s lt).rows j row less).lane;
  sorted = λ k s lt. (h.rows k s lt).sorted;
  distinct = λ k s lt. (h.rows k s lt).distinct;
  apart = h.apart;
}
