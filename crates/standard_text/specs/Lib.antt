pub mod StandardText
