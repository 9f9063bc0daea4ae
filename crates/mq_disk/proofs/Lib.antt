mod Overwritten
mod Shelved
